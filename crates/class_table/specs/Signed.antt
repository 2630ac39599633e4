-- A method whose signature the code has read.
use Rattle.std.specs.Prelude.{option_map}
use Rattle.serde_json.specs.View.{view}
use Rattle.class_table.specs.declared.declare.Signed.{Signed}
use Rattle.class_table.specs.Declaring.{SignedMethod}

abbrev pub signed_seen : Signed → SignedMethod
signed_seen new = record { signature = new.signature; body = option_map (λ json. view json.now) new.body }

-- The arguments of an invoked method, one after another.
use Rattle.std.proofs.Common.{◌≡◌, Bool, true, false, List, [], ◌∷◌, ◌++◌, Ok, Err, refl, ap, ◌∙◌, append_assoc}
use Rattle.plain_types.specs.declared.code.Code.{Code}
use Rattle.plain_types.specs.declared.code.Code.TheVariants.{BadValue, Limit}
use Rattle.serde_json.specs.Data.{Data}
use Rattle.signature_core.specs.declared.kind.Kind.{Kind}
use Rattle.variant_value.specs.declared.value.Value.{Value}
use Rattle.variant_value.specs.Values.{value_of}
use Rattle.session_model.specs.Methods.{Found}
use Rattle.session_model.specs.Signals.{values_of, with_value}
use Rattle.session_effects.specs.Values.{is_limit}

-- what was read before, where a text among it may be too long, and then the rest
abbrev pub read_behind : Bool → List Value → Found (List Value) → Found (List Value)
read_behind false done (Ok rest) = Ok (done ++ rest)
read_behind true done (Ok rest) = Err Limit
read_behind long done (Err code) = Err code

read_more : (long : Bool) (done : List Value) (value : Value) (rest : Found (List Value))
    → read_behind long (done ++ value ∷ []) rest ≡ read_behind long done (with_value (Ok value) rest)
read_more false done value (Ok rest) = rw append_assoc
read_more true done value (Ok rest) = refl
read_more false done value (Err code) = refl
read_more true done value (Err code) = refl

-- a value that is none ends it, whatever comes behind it
bad_first : (long : Bool) (done : List Value) (code : Code) (rest : Found (List Value)) → is_limit code ≡ false
    → read_behind long done (with_value (Err code) rest) ≡ Err code
bad_first long done Limit rest other = absurd (cc)
bad_first false done code (Ok rest) other = refl
bad_first true done code (Ok rest) other = refl
bad_first false done code (Err code') other = refl
bad_first true done code (Err code') other = refl

pub values_refused : (long : Bool) (done : List Value) (kind : Kind) (kinds kinds' : List Kind) (json : Data) (before after : List Data) (code : Code)
    → kinds ≡ kind ∷ kinds' → before ≡ json ∷ after → value_of kind json ≡ Err code → is_limit code ≡ false
    → read_behind long done (values_of kinds before) ≡ Err code
values_refused long done kind kinds kinds' json before after code here there is other =
    ap (λ args. read_behind long done (values_of kinds args)) there
    ∙ ap (λ kinds. read_behind long done (values_of kinds (json ∷ after))) here
    ∙ ap (λ first. read_behind long done (with_value first (values_of kinds' after))) is
    ∙ bad_first long done code (values_of kinds' after) other

-- fewer values than kinds
pub values_short : (long : Bool) (done : List Value) (kind : Kind) (kinds kinds' : List Kind) (args : List Data) → kinds ≡ kind ∷ kinds' → args ≡ []
    → read_behind long done (values_of kinds args) ≡ Err BadValue
values_short long done kind kinds kinds' args here none =
    ap (λ args. read_behind long done (values_of kinds args)) none
    ∙ ap (λ kinds. read_behind long done (values_of kinds [])) here
    ∙ by long
  where
    by : (long : Bool) → read_behind long done (Err BadValue) ≡ Err BadValue
    by false = refl
    by true = refl

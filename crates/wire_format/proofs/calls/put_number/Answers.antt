use Rattle.std.proofs.Common.{◌+◌, arith, refl, length-set}
use Rattle.std.proofs.lemmas.Fmt.{decimal_digit}
use Rattle.std.proofs.lemmas.List.{take_more_set}
use Rattle.wire_format.proofs.calls.put_number.Goals as goal

pub returns-then-number-lt10-clause-put : goal.returns-then-number-lt10-clause-put
returns-then-number-lt10-clause-put c =
    rw (decimal_digit c.args.number c.if-number-lt10.true) (record {
      bytes = take_more_set c.args.memory.now c.args.at (48 + c.args.number) (omega arith);
      moved = refl;
      len = length-set c.args.memory.now c.args.at (48 + c.args.number);
    })

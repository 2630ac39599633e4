use Rattle.isolation.proofs.piece_laws.Goals as goal
use Rattle.isolation.proofs.Piecewise.{leaving_out_pieces, said_stays, said_by_influence, told_alone}

pub returns : goal.returns
returns g c = record {
  leaving_out = λ m lawful. leaving_out_pieces g.row.Fault.Denot m lawful;
  said_stays = λ m lawful. said_stays g.row.Fault.Denot m lawful;
  said_by_influence = λ m lawful. said_by_influence g.row.Fault.Denot m lawful;
  told_alone = λ m lawful. told_alone g.row.Fault.Denot m lawful;
}

-- The expression of a node.
use Rattle.term_core.specs.Term.{Term, const, arg, state, prop, binary, choice}
use Rattle.term_core.specs.declared.expr.Node.{Node}
use Rattle.term_core.specs.declared.expr.Node.TheVariants as node

abbrev pub term_at : Node → Term
term_at (node.Const value) = const value
term_at (node.Arg place) = arg place
term_at node.State = state
term_at (node.Prop target name) = prop target name
term_at (node.Binary operator a b) = binary operator a.value b.value
term_at (node.Choice test a b) = choice test.value a.value b.value

-- What is known where nothing is refused.
use Rattle.std.proofs.Common.{◌≡◌, ℕ, ◌+◌, ◌-◌, ◌<◌, ◌≤◌, ◌^◌, Bool, true, false, cond, List, Option, Some, None, length, refl, sym, ap, ◌∙◌, nat_le}
use Rattle.std.specs.Option.{option_map_or, option_or, is_some}
use Rattle.std.proofs.lemmas.Bool.{leb-false, ltb-false, or_parts}
use Rattle.plain_types.specs.declared.code.Code.TheVariants.{Dying, NoSuchObject}
use Rattle.object_tree.specs.declared.row.Row.{Row}
use Rattle.object_tree.specs.declared.row.TheConstants.{OBJECTS, DEPTH}
use Rattle.object_tree.specs.Rows.{is_there, row_of}
use Rattle.object_tree.specs.Lines.{depth_at, height, is_below}
use Rattle.object_tree.specs.Forest.{Forest}
use Rattle.object_tree.specs.Refusing.{add_refusal, cycle_refusal, depth_refusal, keeps_parent, move_refusal, number_refusal, object_refusal, parent_refusal}
use Rattle.object_tree.specs.Refusing.{room_refusal, set_parent_refusal}

or_none : {A : Type 0} (a b : Option A) → option_or a b ≡ None → (a ≡ None) × (b ≡ None)
or_none None b e = (refl, e)
or_none (Some x) b e = absurd (cc)

if_none : {A : Type 0} (b : Bool) (x : A) → cond b (Some x) None ≡ None → b ≡ false
if_none true x e = absurd (cc)
if_none false x e = refl

-- the object is there
there_allowed : (rows : List Row) (n : ℕ) → object_refusal rows n ≡ None → is_there rows n ≡ true
there_allowed rows n e = by (row_of rows n) e
  where
    by : (r : Option Row) → option_map_or (λ (row : Row). cond row.dying (Some Dying) None) r (Some NoSuchObject) ≡ None → is_some r ≡ true
    by None e = absurd (cc)
    by (Some row) e = refl

parent_allowed : (rows : List Row) (parent : Option ℕ) → parent_refusal rows parent ≡ None → (p : ℕ) → parent ≡ Some p → is_there rows p ≡ true
parent_allowed rows parent e p is = there_allowed rows p (ap (λ q. parent_refusal rows q) (sym is) ∙ e)

pub record CanAdd (forest : Forest) (parent : Option ℕ) : Type 0 where
  pub number : forest.last_number < 2 ^ 32 - 1
  pub stamp : forest.last_stamp < 2 ^ 64 - 1
  pub room : length forest.rows < OBJECTS
  pub shallow : depth_at forest.rows parent < DEPTH
  pub above : (p : ℕ) → parent ≡ Some p → is_there forest.rows p ≡ true

pub add_allowed : (forest : Forest) (parent : Option ℕ) → add_refusal forest parent ≡ None → CanAdd forest parent
unfolding add_refusal
add_allowed forest parent e =
    let first = or_none (parent_refusal forest.rows parent) _ e in
    let second = or_none (room_refusal forest.rows parent) _ first.1 in
    let third = or_none (number_refusal forest.last_number) _ second.1 in
    let room = or_parts (nat_le OBJECTS (length forest.rows)) _ (if_none _ _ second.0) in
    record {
      number = leb-false (2 ^ 32 - 1) forest.last_number (if_none _ _ third.0);
      stamp = leb-false (2 ^ 64 - 1) forest.last_stamp (if_none _ _ third.1);
      room = leb-false OBJECTS (length forest.rows) room.0;
      shallow = leb-false DEPTH (depth_at forest.rows parent) room.1;
      above = parent_allowed forest.rows parent first.0;
    }

pub record CanMove (forest : Forest) (object : ℕ) (parent : Option ℕ) : Type 0 where
  pub stamp : forest.last_stamp < 2 ^ 64 - 1
  pub there : is_there forest.rows object ≡ true
  pub above : (p : ℕ) → parent ≡ Some p → (is_there forest.rows p ≡ true) × (is_below forest.rows object p ≡ false)
  pub shallow : depth_at forest.rows parent + height forest.rows object ≤ DEPTH

pub move_allowed : (forest : Forest) (object : ℕ) (parent : Option ℕ) → set_parent_refusal forest object parent ≡ None
    → keeps_parent forest.rows object parent ≡ false → CanMove forest object parent
unfolding set_parent_refusal move_refusal
move_allowed forest object parent e another =
    let first = or_none (object_refusal forest.rows object) _ e in
    let second = or_none (parent_refusal forest.rows parent) _ first.1 in
    let rest : move_refusal forest object parent ≡ None = (λ i. cond (sym another i) None (move_refusal forest object parent)) ∙ second.1 in
    let third = or_none (cycle_refusal forest.rows object parent) _ rest in
    let fourth = or_none (depth_refusal forest.rows object parent) _ third.1 in
    record {
      stamp = leb-false (2 ^ 64 - 1) forest.last_stamp (if_none _ _ fourth.1);
      there = there_allowed forest.rows object first.0;
      above = λ p is. (parent_allowed forest.rows parent second.0 p is, if_none _ _ (ap (λ q. cycle_refusal forest.rows object q) (sym is) ∙ third.0));
      shallow = ltb-false DEPTH (depth_at forest.rows parent + height forest.rows object) (if_none _ _ fourth.0);
    }

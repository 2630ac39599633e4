-- How the logic stores an action.
use Rattle.std.proofs.Common.{◌≡◌, ap, refl, arith}
use Rattle.std.specs.Coded.{Coded}
use base.Stored.{Gv, gnil, gnum, gcons}
use Rattle.term_core.specs.contracts.action.SingleAction as an_action
use Rattle.term_core.specs.Coded.{head, tail, apart, coded_term}
use Rattle.term_core.specs.Act.{Act, Acts, single_action, when, nothing, more}

abbrev mutual
  pub act_code : Act → Gv
  act_code (single_action a0) = gcons (gnum 0) (an_action.the_row.coded.code a0)
  act_code (when a0 a1 a2) = gcons (gnum 1) (gcons (coded_term.code a0) (gcons (acts_code a1) (acts_code a2)))

  pub acts_code : Acts → Gv
  acts_code nothing = gnil
  acts_code (more a0 a1) = gcons (act_code a0) (acts_code a1)

mutual
  pub act_inj : (x y : Act) → act_code x ≡ act_code y → x ≡ y
  act_inj (single_action a0) (single_action b0) p = λ i. single_action (an_action.the_row.coded.inj a0 b0 (ap (λ g. tail g) p) i)
  act_inj (single_action a0) (when b0 b1 b2) p = absurd (apart 0 1 p (omega arith))
  act_inj (when a0 a1 a2) (single_action b0) p = absurd (apart 1 0 p (omega arith))
  act_inj (when a0 a1 a2) (when b0 b1 b2) p = λ i. when (coded_term.inj a0 b0 (ap (λ g. head (tail g)) p) i)
      (acts_inj a1 b1 (ap (λ g. head (tail (tail g))) p) i) (acts_inj a2 b2 (ap (λ g. tail (tail (tail g))) p) i)

  pub acts_inj : (x y : Acts) → acts_code x ≡ acts_code y → x ≡ y
  acts_inj nothing nothing p = refl
  acts_inj nothing (more b0 b1) p = absurd (cc)
  acts_inj (more a0 a1) nothing p = absurd (cc)
  acts_inj (more a0 a1) (more b0 b1) p = λ i. more (act_inj a0 b0 (ap (λ g. head g) p) i) (acts_inj a1 b1 (ap (λ g. tail g) p) i)

abbrev pub coded_act : Coded Act
coded_act = record { code = act_code; inj = act_inj }

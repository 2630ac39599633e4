-- The rules by which an object is deleted: one for each way that it goes.
use Rattle.std.proofs.Common.{◌≡◌, ℕ, true, false, [], ◌∷◌, None, refl}
use Rattle.std.proofs.lemmas.Bool.{cond-false, cond-true}
use Rattle.session_model.proofs.Common.{DESTROYED, delete_children, lives, step, Execution, dying, severed, Detach, Delete, Emit, Remove, DeleteChild, puts}
use Rattle.session_model.proofs.Common.{Settings, comes_to, without_object}
use Rattle.session_model.specs.Agenda.{lives_below}

module _ (settings : Settings) (target depth : ℕ) (doing : Execution) where
  -- an object that is gone or dying is left alone
  pub delete_none : lives doing target ≡ false → step settings (Delete target depth) doing ≡ puts [] doing
  delete_none absent = cond-false (lives doing target) _ _ absent

  -- an object that lives is dying from now on, and says so first
  pub delete_some : lives doing target ≡ true → step settings (Delete target depth) doing
      ≡ puts (Emit target DESTROYED [] depth ∷ Detach target depth ∷ Remove target depth ∷ []) (dying doing target)
  delete_some living = cond-true (lives doing target) _ _ living

  -- nothing ties a dying object to others any more, and then its children are deleted
  pub detach_delete_children : step settings (Detach target depth) doing ≡ puts (delete_children doing target depth) (severed doing target)
  detach_delete_children = refl

  -- a dying object goes at last, and what has changed by it is told
  pub gone_now : step settings (Remove target depth) doing ≡ comes_to settings doing depth (without_object doing.state target) None
  gone_now = refl

module _ (settings : Settings) (parent child depth : ℕ) (doing : Execution) where
  -- a child that is gone, is dying or has another parent is left alone
  pub delete_child_none : lives_below doing parent child ≡ false → step settings (DeleteChild parent child depth) doing ≡ puts [] doing
  delete_child_none other = cond-false (lives_below doing parent child) _ _ other

  -- a child that lives below its parent is deleted
  pub delete_child_some : lives_below doing parent child ≡ true → step settings (DeleteChild parent child depth) doing ≡ puts (Delete child depth ∷ []) doing
  delete_child_some living = cond-true (lives_below doing parent child) _ _ living

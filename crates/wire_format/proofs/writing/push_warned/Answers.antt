use Rattle.std.proofs.Common.{◌≡◌, ℕ, List, ◌++◌, codes, append_assoc}
use Rattle.wire_format.proofs.writing.push_warned.Goals as goal

-- four texts behind one another, the third with its key
in_turn : (a b c d e k s w x y : List ℕ) → b ≡ a ++ k → c ≡ b ++ s → d ≡ c ++ (w ++ x) → e ≡ d ++ y → e ≡ a ++ (k ++ (s ++ (w ++ (x ++ y))))
in_turn a b c d e k s w x y f g h i = rw (i, h, g, f) (simp append_assoc)

pub returns : goal.returns
returns g c = in_turn _ _ _ _ _ _ _ (codes ",\"warning\":") _ (codes "}\n") c.in_ok-push_str.ensures.bytes c.in_ok-push_text.ensures c.in_ok-put.ensures
    c.in_ok-push_str-2.ensures.bytes

-- Texts that are sent one after another.
use Rattle.std.proofs.Common.{◌≡◌, ℕ, ◌<◌, List, [], ◌++◌, length, take, drop, Option, Result, Ok, Err, refl, sym, ap, ◌∙◌, subst, arith, append-nil}
use Rattle.std.proofs.Common.{append_assoc, take-append-drop, ◌+◌, ◌∷◌, get_or, min, IsErr}
use Rattle.std.proofs.Math.Seq.{take-append-add}
use Rattle.std.specs.List.{flat_map}
use Rattle.std.proofs.lemmas.Grind.{flat_map-append}
use Rattle.std.proofs.lemmas.List.{take_min, take_more}
use Rattle.std.specs.Io.KnownBytes.{Appends}
use Rattle.std.proofs.KnownBytes.{Appends-nil, Appends-trans}
use Rattle.wire_format.specs.Bytes.{AppendsFront, AppendsAll}
use Rattle.wire_lines.specs.Sending.{Out, out, Sent, SentFront, SentAll}

-- what is gathered is written, and then the text is gathered
pub Sent-flushed : (old new : Option (List ℕ)) (gathered text : List ℕ) → Appends old new gathered
    → Sent (record { received = old; gathered = gathered }) (record { received = new; gathered = text }) text
Sent-flushed old new gathered text bytes = (gathered, bytes, refl)

-- a sink that failed took a front of what was gathered
pub SentFront-flushed : (old new : Option (List ℕ)) (gathered text : List ℕ) → AppendsFront old new gathered
    → SentFront (record { received = old; gathered = gathered }) (record { received = new; gathered = [] }) text
SentFront-flushed old new gathered text front =
    let (n, below, bytes) = front in
    let whole : gathered ++ text ≡ (take n gathered ++ []) ++ (drop n gathered ++ text) =
    ap (λ l. l ++ text) (sym (take-append-drop n gathered)) ∙ append_assoc (take n gathered) (drop n gathered) text
    ∙ ap (λ l. l ++ (drop n gathered ++ text)) (sym (append-nil (take n gathered))) in
    (take n gathered, bytes, (drop n gathered ++ text, whole))

-- what is gathered is written, and then the text itself, as far as the sink takes it
pub SentAll-written : {T E : Type 0} (old mid new : Option (List ℕ)) (gathered text : List ℕ) (r : Result T E) → Appends old mid gathered
    → AppendsAll mid new r text → SentAll (record { received = old; gathered = gathered }) (record { received = new; gathered = [] }) r text
SentAll-written old mid new gathered text (Ok v) before now =
    (gathered ++ text, Appends-trans old mid new gathered text before now, sym (append-nil (gathered ++ text)))
SentAll-written old mid new gathered text (Err e) before now =
    let (n, below, bytes) = now in
    let whole : gathered ++ text ≡ ((gathered ++ take n text) ++ []) ++ drop n text =
    ap (λ l. gathered ++ l) (sym (take-append-drop n text)) ∙ sym (append_assoc gathered (take n text) (drop n text))
    ∙ ap (λ l. l ++ drop n text) (sym (append-nil (gathered ++ take n text))) in
    (gathered ++ take n text, Appends-trans old mid new gathered (take n text) before bytes, (drop n text, whole))

-- the same where it is known that nothing is gathered afterwards
pub SentFront-emptied : (old new : Option (List ℕ)) (gathered left text : List ℕ) → left ≡ [] → AppendsFront old new gathered
    → SentFront (record { received = old; gathered = gathered }) (record { received = new; gathered = left }) text
SentFront-emptied old new gathered left text none front =
    subst (λ l. SentFront (record { received = old; gathered = gathered }) (record { received = new; gathered = l }) text) (sym none)
    (SentFront-flushed old new gathered text front)

pub SentAll-passed : {T E : Type 0} (old mid new : Option (List ℕ)) (gathered left text : List ℕ) (r : Result T E) → left ≡ [] → Appends old mid gathered
    → AppendsAll mid new r text → SentAll (record { received = old; gathered = gathered }) (record { received = new; gathered = left }) r text
SentAll-passed old mid new gathered left text r none before now =
    subst (λ l. SentAll (record { received = old; gathered = gathered }) (record { received = new; gathered = l }) r text) (sym none)
    (SentAll-written old mid new gathered text r before now)

-- at an `Err` a front is sent
pub SentAll-failed : {T E : Type 0} (a b : Out) (r : Result T E) (text : List ℕ) → IsErr r → SentFront a b text → SentAll a b r text
SentAll-failed a b (Ok v) text failed front = absurd (cc failed)
SentAll-failed a b (Err e) text failed front = front

-- as many bytes as there is room for
pub take-append-room : (room n kept : ℕ) (xs ys : List ℕ) → room + length xs ≡ n → kept ≡ min (length ys) room → xs ++ take kept ys ≡ take n (xs ++ ys)
take-append-room room n kept xs ys fits least =
    let same : kept ≡ min room (length ys) = omega arith in
    let sum : length xs + room ≡ n = omega arith in
    ap (λ k. xs ++ take k ys) same ∙ ap (λ l. xs ++ l) (take_min room ys) ∙ sym (take-append-add xs ys room) ∙ ap (λ k. take k (xs ++ ys)) sum

-- nothing is sent where nothing changes
pub Sent-nothing : (out : Out) → Sent out out []
Sent-nothing out = ([], Appends-nil out.received, append-nil out.gathered)

-- one text after another
pub Sent-trans : (a b c : Out) (xs ys : List ℕ) → Sent a b xs → Sent b c ys → Sent a c (xs ++ ys)
Sent-trans a b c xs ys before now =
    let (w, held, sent) = before in
    let (v, more, then_sent) = now in
    let whole : a.gathered ++ (xs ++ ys) ≡ (w ++ v) ++ c.gathered =
    sym (append_assoc a.gathered xs ys) ∙ ap (λ l. l ++ ys) sent ∙ append_assoc w b.gathered ys ∙ ap (λ l. w ++ l) then_sent
    ∙ sym (append_assoc w v c.gathered) in
    (w ++ v, Appends-trans a.received b.received c.received w v held more, whole)

-- a text, and then a front of the next
pub SentFront-after : (a b c : Out) (xs ys : List ℕ) → Sent a b xs → SentFront b c ys → SentFront a c (xs ++ ys)
SentFront-after a b c xs ys before now =
    let (w, held, sent) = before in
    let (v, more, (rest, then_sent)) = now in
    let whole : a.gathered ++ (xs ++ ys) ≡ ((w ++ v) ++ c.gathered) ++ rest =
    sym (append_assoc a.gathered xs ys) ∙ ap (λ l. l ++ ys) sent ∙ append_assoc w b.gathered ys ∙ ap (λ l. w ++ l) then_sent
    ∙ ap (λ l. w ++ l) (append_assoc v c.gathered rest) ∙ sym (append_assoc w v (c.gathered ++ rest)) ∙ sym (append_assoc (w ++ v) c.gathered rest) in
    (w ++ v, Appends-trans a.received b.received c.received w v held more, (rest, whole))

-- a front of a text is one of a longer text
pub SentFront-more : (a b : Out) (xs ys : List ℕ) → SentFront a b xs → SentFront a b (xs ++ ys)
SentFront-more a b xs ys front =
    let (w, held, (rest, sent)) = front in
    let whole : a.gathered ++ (xs ++ ys) ≡ (w ++ b.gathered) ++ (rest ++ ys) =
    sym (append_assoc a.gathered xs ys) ∙ ap (λ l. l ++ ys) sent ∙ append_assoc (w ++ b.gathered) rest ys in
    (w, held, (rest ++ ys, whole))

-- all of a text is a front of it
pub SentFront-whole : (a b : Out) (xs : List ℕ) → Sent a b xs → SentFront a b xs
SentFront-whole a b xs whole =
    let (w, held, sent) = whole in
    (w, held, ([], sent ∙ sym (append-nil (w ++ b.gathered))))

-- a text, and then all or a front of the next
pub SentAll-after : {T E : Type 0} (a b c : Out) (r : Result T E) (xs ys : List ℕ) → Sent a b xs → SentAll b c r ys → SentAll a c r (xs ++ ys)
SentAll-after a b c (Ok v) xs ys before now = Sent-trans a b c xs ys before now
SentAll-after a b c (Err e) xs ys before now = SentFront-after a b c xs ys before now

-- a list of texts, one for each element
module _ {X : Type 0} (f : X → List ℕ) (xs : List X) (i : ℕ) where
  whole-flat_map : flat_map f xs ≡ flat_map f (take i xs) ++ flat_map f (drop i xs)
  whole-flat_map = ap (flat_map f) (sym (take-append-drop i xs)) ∙ flat_map-append f (take i xs) (drop i xs)

  next-flat_map : (d : X) (text : List ℕ) → i < length xs → text ≡ f (get_or xs i d) → flat_map f (take (i + 1) xs) ≡ flat_map f (take i xs) ++ text
  next-flat_map d text within is =
      ap (flat_map f) (take_more xs i d within) ∙ flat_map-append f (take i xs) (get_or xs i d ∷ [])
      ∙ ap (λ l. flat_map f (take i xs) ++ l) (append-nil (f (get_or xs i d)) ∙ sym is)

  -- the text of the next element is sent
  pub Sent-next : (a b c : Out) (d : X) (text : List ℕ) → i < length xs → text ≡ f (get_or xs i d) → Sent a b (flat_map f (take i xs)) → Sent b c text
      → Sent a c (flat_map f (take (i + 1) xs))
  Sent-next a b c d text within is before now = subst (Sent a c) (sym (next-flat_map d text within is)) (Sent-trans a b c _ _ before now)

  -- a front of it is
  pub SentFront-next : (a b c : Out) (d : X) (text : List ℕ) → i < length xs → text ≡ f (get_or xs i d) → Sent a b (flat_map f (take i xs)) → SentFront b c text
      → SentFront a c (flat_map f xs)
  SentFront-next a b c d text within is before now =
      let so_far : SentFront a c (flat_map f (take (i + 1) xs)) =
      subst (SentFront a c) (sym (next-flat_map d text within is)) (SentFront-after a b c _ _ before now) in
      let whole : flat_map f xs ≡ flat_map f (take (i + 1) xs) ++ flat_map f (drop (i + 1) xs) =
      ap (flat_map f) (sym (take-append-drop (i + 1) xs)) ∙ flat_map-append f (take (i + 1) xs) (drop (i + 1) xs) in
      subst (SentFront a c) (sym whole) (SentFront-more a c _ _ so_far)

-- what is gathered behind a front is written, or a front of it
pub SentFront-then : (a : Out) (old new : Option (List ℕ)) (gathered left text : List ℕ) → left ≡ [] → SentFront a (out old gathered) text
    → Appends old new gathered → SentFront a (out new left) text
SentFront-then a old new gathered left text none front bytes =
    let (w, held, (rest, sent)) = front in
    let whole : a.gathered ++ text ≡ ((w ++ gathered) ++ left) ++ rest = sent
    ∙ ap (λ l. l ++ rest) (sym (append-nil (w ++ gathered)) ∙ ap (λ l. (w ++ gathered) ++ l) (sym none)) in
    (w ++ gathered, Appends-trans a.received old new w gathered held bytes, (rest, whole))

pub SentFront-then_front : (a : Out) (old new : Option (List ℕ)) (gathered left text : List ℕ) → left ≡ [] → SentFront a (out old gathered) text
    → AppendsFront old new gathered → SentFront a (out new left) text
SentFront-then_front a old new gathered left text none front bytes =
    let (w, held, (rest, sent)) = front in
    let (n, below, taken) = bytes in
    let whole : a.gathered ++ text ≡ ((w ++ take n gathered) ++ left) ++ (drop n gathered ++ rest) =
    sent ∙ ap (λ l. (w ++ l) ++ rest) (sym (take-append-drop n gathered)) ∙ ap (λ l. l ++ rest) (sym (append_assoc w (take n gathered) (drop n gathered)))
    ∙ append_assoc (w ++ take n gathered) (drop n gathered) rest
    ∙ ap (λ l. l ++ (drop n gathered ++ rest)) (sym (append-nil (w ++ take n gathered)) ∙ ap (λ l. (w ++ take n gathered) ++ l) (sym none)) in
    (w ++ take n gathered, Appends-trans a.received old new w (take n gathered) held taken, (drop n gathered ++ rest, whole))

-- a text is sent, and what is gathered is written
pub Sent-then : (a : Out) (old new : Option (List ℕ)) (gathered left text : List ℕ) → left ≡ [] → Sent a (out old gathered) text → Appends old new gathered
    → Sent a (out new left) text
Sent-then a old new gathered left text none sent bytes =
    let (w, held, is) = sent in
    let whole : a.gathered ++ text ≡ (w ++ gathered) ++ left = is ∙ sym (append-nil (w ++ gathered)) ∙ ap (λ l. (w ++ gathered) ++ l) (sym none) in
    (w ++ gathered, Appends-trans a.received old new w gathered held bytes, whole)

-- the same, as far as the sink takes it
pub SentAll-then : {T E : Type 0} (a : Out) (old new : Option (List ℕ)) (gathered left text : List ℕ) (r : Result T E) → left ≡ []
    → Sent a (out old gathered) text → AppendsAll old new r gathered → SentAll a (out new left) r text
SentAll-then a old new gathered left text (Ok v) none sent bytes = Sent-then a old new gathered left text none sent bytes
SentAll-then a old new gathered left text (Err e) none sent bytes =
    SentFront-then_front a old new gathered left text none (SentFront-whole a (out old gathered) text sent) bytes

use Rattle.std.proofs.Common.{◌≡◌, ◌∷◌, ◌++◌, [], ℕ, List, Result, Ok, Err, OnOk, string_bytes, ap, ap₂, ◌∙◌, append-nil}
use Rattle.json.specs.Token as token
use Rattle.json.specs.Print.{print, print_from, quoted}
use Rattle.wire_format.proofs.writing.push_escaped.Goals as goal

-- one text is written between quotes
one_text : (s : List ℕ) → print (token.string s ∷ []) ≡ quoted s
unfolding print_from
one_text s = append-nil (quoted s)

map_ok : {T E P Q : Type 0} (r : Result T E) → (P → Q) → OnOk r P → OnOk r Q
map_ok (Ok value) f h = f h
map_ok (Err error) f h = h

pub returns : goal.returns
returns c =
    let text = c.args.text.now in
    let before = c.string-written.ensures.room.0 ∙ c.new-writer.ensures.before ∙ ap (λ v. v.items) c.into_bytes.ensures.value
    ∙ ap string_bytes c.replace-before.ensures.value in
    map_ok c.string-written.result
    (λ tokens.
    ap (λ v. v.items) c.in-Ok.ensures.ok ∙ c.into_inner.ensures.items
    ∙ ap₂ (λ bytes ts. bytes ++ print ts) before (tokens ∙ ap (λ ts. ts ++ token.string text ∷ []) c.new-writer.ensures.tokens)
    ∙ ap (λ l. string_bytes c.args.buffer.now ++ l) (one_text text))
    c.string-written.ensures.ok

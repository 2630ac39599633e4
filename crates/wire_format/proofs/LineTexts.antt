-- The texts of lines, part by part.
use Rattle.std.proofs.Common.{◌≡◌, ℕ, true, List, [], ◌∷◌, ◌++◌, Some, None, IsTrue, codes, sym, ap, ap₂, ◌∙◌, append_assoc, decimal}
use Rattle.std.specs.List.{list_all}
use Rattle.plain_types.specs.declared.code.Code.{Code}
use Rattle.plain_types.specs.Codes.{code_text}
use Rattle.binding_values.specs.declared.property.BindingError.{BindingError}
use Rattle.serde_json.specs.Data.{Data, string}
use Rattle.serde_json.specs.Written.{compact_text}
use Rattle.serde_json.proofs.OnLiterals.{serde_json_on_literals}
use Rattle.session_model.specs.declared.call.Call.{Call}
use Rattle.session_model.specs.declared.line.Answer.{Answer}
use Rattle.session_model.specs.declared.line.Line.TheVariants as a_line
use Rattle.session_model.specs.declared.line.Line.TheVariants.{Reply, Error}
use Rattle.variant_value.specs.Values.{json_of}
use Rattle.wire_format.specs.Json.{array_of, json_of_code, json_of_error, json_of_number}
use Rattle.wire_format.specs.Text.{is_plain_byte, is_session_text, json_of_answer, text_of_line}
use Rattle.wire_format.proofs.Plain.{code_is_plain, session_is_plain, text_of_plain}

-- a key and its value put behind a text, and then the rest
pub key_behind : (a b z v rest key : List ℕ) → b ≡ a ++ (key ++ v) → z ≡ b ++ rest → z ≡ a ++ (key ++ (v ++ rest))
key_behind a b z v rest key e f = f ∙ (ap (λ l. l ++ rest) e ∙ (append_assoc a (key ++ v) rest ∙ ap (λ l. a ++ l) (append_assoc key v rest)))

-- three keys with their values, and then the rest
pub three_puts : (text a b c rest : List ℕ) → (((text ++ a) ++ b) ++ c) ++ rest ≡ text ++ (a ++ (b ++ (c ++ rest)))
three_puts text a b c rest = simp append_assoc

-- three texts put behind another
pub three_behind : (a b c d x y z : List ℕ) → b ≡ a ++ x → c ≡ b ++ y → d ≡ c ++ z → d ≡ a ++ (x ++ (y ++ z))
three_behind a b c d x y z e f g = rw (g, f, e) (simp append_assoc)

-- what opens a line, what it tells, and its session at the end
abbrev pub around : List ℕ → List ℕ → List ℕ → List ℕ
around opening told session = opening ++ (told ++ (codes ",\"session\":" ++ (session ++ codes "}\n")))

pub error_line : (code : Code) (session : List ℕ) → text_of_line session (Error code)
    ≡ around (codes "{\"error\":") (compact_text (string (code_text code))) (compact_text (string session))
unfolding text_of_line serde_json_on_literals
error_line code session = simp append_assoc

pub reply_line : (answer : Answer) (session : List ℕ) → text_of_line session (Reply answer)
    ≡ around (codes "{\"reply\":") (compact_text (json_of_answer answer)) (compact_text (string session))
unfolding text_of_line serde_json_on_literals
reply_line answer session = simp append_assoc

call_ended : (a b c d e f g h i j : List ℕ) → (a ++ (b ++ (c ++ (d ++ (e ++ (f ++ (g ++ (h ++ (i ++ (j ++ 125 ∷ [])))))))))) ++ 10 ∷ [] ≡ a
    ++ (b ++ (c ++ (d ++ (e ++ (f ++ (g ++ (h ++ (i ++ (j ++ codes "}\n")))))))))
call_ended a b c d e f g h i j = simp append_assoc

pub call_line : (call : Call) (session : List ℕ) → text_of_line session (a_line.Call call) ≡ codes "{\"args\":"
    ++ (compact_text (array_of json_of call.args) ++ (codes ",\"call\":" ++ (compact_text (string call.method)
    ++ (codes ",\"object\":" ++ (compact_text (json_of_number call.object) ++ (codes ",\"sender\":" ++ (compact_text (json_of_number call.sender)
    ++ (codes ",\"session\":" ++ (compact_text (string session) ++ codes "}\n")))))))))
unfolding text_of_line serde_json_on_literals
call_line call session =
    call_ended (codes "{\"args\":") (compact_text (array_of json_of call.args)) (codes ",\"call\":") (compact_text (string call.method))
    (codes ",\"object\":") (compact_text (json_of_number call.object)) (codes ",\"sender\":") (compact_text (json_of_number call.sender))
    (codes ",\"session\":") (compact_text (string session))

-- what a warning's line has from its session on
abbrev pub warned : List ℕ → Data → List ℕ
warned session json = compact_text (string session) ++ (codes ",\"warning\":" ++ (compact_text json ++ codes "}\n"))

warning_ended : (a b c d : List ℕ) → (a ++ (b ++ (c ++ (d ++ 125 ∷ [])))) ++ 10 ∷ [] ≡ a ++ (b ++ (c ++ (d ++ codes "}\n")))
warning_ended a b c d = simp append_assoc

pub warning_line : (code : Code) (session : List ℕ) → text_of_line session (a_line.Warning code None)
    ≡ codes "{\"session\":" ++ warned session (json_of_code code)
unfolding text_of_line serde_json_on_literals
warning_line code session = warning_ended (codes "{\"session\":") (compact_text (string session)) (codes ",\"warning\":") (compact_text (json_of_code code))

object_warning_ended : (a b c d e f : List ℕ) → (a ++ (b ++ (c ++ (d ++ (e ++ (f ++ 125 ∷ [])))))) ++ 10 ∷ [] ≡ a
    ++ (b ++ (c ++ (d ++ (e ++ (f ++ codes "}\n")))))
object_warning_ended a b c d e f = simp append_assoc

pub object_warning_line : (code : Code) (n : ℕ) (session : List ℕ) → text_of_line session (a_line.Warning code (Some n))
    ≡ codes "{\"object\":" ++ (compact_text (json_of_number n) ++ (codes ",\"session\":" ++ warned session (json_of_code code)))
unfolding text_of_line serde_json_on_literals
object_warning_line code n session =
    object_warning_ended (codes "{\"object\":") (compact_text (json_of_number n)) (codes ",\"session\":") (compact_text (string session))
    (codes ",\"warning\":") (compact_text (json_of_code code))

binding_warning_ended : (a b c d e f g h : List ℕ) → (a ++ (b ++ (c ++ (d ++ (e ++ (f ++ (g ++ (h ++ 125 ∷ [])))))))) ++ 10 ∷ [] ≡ a
    ++ (b ++ (c ++ (d ++ (e ++ (f ++ (g ++ (h ++ codes "}\n")))))))
binding_warning_ended a b c d e f g h = simp append_assoc

pub binding_warning_line : (n : ℕ) (property : List ℕ) (error : BindingError) (session : List ℕ)
    → text_of_line session (a_line.BindingWarning n property error)
    ≡ codes "{\"object\":" ++ (compact_text (json_of_number n) ++ (codes ",\"property\":" ++ (compact_text (string property)
    ++ (codes ",\"session\":" ++ warned session (json_of_error error)))))
unfolding text_of_line serde_json_on_literals
binding_warning_line n property error session =
    binding_warning_ended (codes "{\"object\":") (compact_text (json_of_number n)) (codes ",\"property\":") (compact_text (string property))
    (codes ",\"session\":") (compact_text (string session)) (codes ",\"warning\":") (compact_text (json_of_error error))

-- a text in which JSON escapes nothing, with the text around it, which brings its quotes
pub text_between : (before s after : List ℕ) → list_all is_plain_byte s ≡ true
    → (before ++ 34 ∷ []) ++ (s ++ (34 ∷ after)) ≡ before ++ (compact_text (string s) ++ after)
text_between before s after plain =
    let quoted : (before ++ 34 ∷ []) ++ (s ++ (34 ∷ after)) ≡ before ++ ((34 ∷ (s ++ 34 ∷ [])) ++ after) = simp append_assoc in
    quoted ∙ ap (λ text. before ++ (text ++ after)) (sym (text_of_plain s plain))

pub plain_behind : (a b c d before s after : List ℕ) → list_all is_plain_byte s ≡ true → b ≡ a ++ (before ++ 34 ∷ []) → c ≡ b ++ s → d ≡ c ++ 34 ∷ after
    → d ≡ a ++ (before ++ (compact_text (string s) ++ after))
plain_behind a b c d before s after plain e f g =
    three_behind a b c d (before ++ 34 ∷ []) s (34 ∷ after) e f g ∙ ap (λ text. a ++ text) (text_between before s after plain)

around_word : (opening told session : List ℕ) → around opening told (34 ∷ (session ++ 34 ∷ [])) ≡ opening
    ++ (told ++ (codes ",\"session\":\"" ++ (session ++ codes "\"}\n")))
around_word opening told session = simp append_assoc

around_text : (opening told session : List ℕ) → around opening (34 ∷ (told ++ 34 ∷ [])) (34 ∷ (session ++ 34 ∷ [])) ≡ (opening ++ 34 ∷ [])
    ++ (told ++ (codes "\",\"session\":\"" ++ (session ++ codes "\"}\n")))
around_text opening told session = simp append_assoc

pub text_of_error : (code : Code) (session : List ℕ) → IsTrue (is_session_text session)
    → text_of_line session (Error code) ≡ codes "{\"error\":\"" ++ (code_text code ++ (codes "\",\"session\":\"" ++ (session ++ codes "\"}\n")))
text_of_error code session named =
    error_line code session
    ∙ ap₂ (around (codes "{\"error\":")) (text_of_plain (code_text code) (code_is_plain code)) (text_of_plain session (session_is_plain session named))
    ∙ around_text (codes "{\"error\":") (code_text code) session

-- a reply's line, whose answer is written as a word
pub text_of_word : (answer : Answer) (told session : List ℕ) → IsTrue (is_session_text session) → told ≡ compact_text (json_of_answer answer)
    → codes "{\"reply\":" ++ (told ++ (codes ",\"session\":\"" ++ (session ++ codes "\"}\n"))) ≡ text_of_line session (Reply answer)
text_of_word answer told session named shown =
    sym (reply_line answer session
    ∙ ap₂ (around (codes "{\"reply\":")) (sym shown) (text_of_plain session (session_is_plain session named))
    ∙ around_word (codes "{\"reply\":") told session)

-- and as a text in which JSON escapes nothing
pub text_of_text : (answer : Answer) (told session : List ℕ) → IsTrue (is_session_text session) → list_all is_plain_byte told ≡ true
    → compact_text (string told) ≡ compact_text (json_of_answer answer)
    → codes "{\"reply\":\"" ++ (told ++ (codes "\",\"session\":\"" ++ (session ++ codes "\"}\n"))) ≡ text_of_line session (Reply answer)
text_of_text answer told session named plain shown =
    sym (reply_line answer session
    ∙ ap₂ (around (codes "{\"reply\":")) (sym shown ∙ text_of_plain told plain) (text_of_plain session (session_is_plain session named))
    ∙ around_text (codes "{\"reply\":") told session)

-- a call's line around the texts of its parts
abbrev call_around : List ℕ → List ℕ → List ℕ → List ℕ → List ℕ → List ℕ
call_around args method object sender session = codes "{\"args\":"
    ++ (args ++ (codes ",\"call\":" ++ (method
    ++ (codes ",\"object\":" ++ (object ++ (codes ",\"sender\":" ++ (sender ++ (codes ",\"session\":" ++ (session ++ codes "}\n")))))))))

around_call : (word method object sender session : List ℕ) → call_around (91 ∷ (word ++ 93 ∷ [])) (34 ∷ (method ++ 34 ∷ [])) object sender
    (34 ∷ (session ++ 34 ∷ []))
    ≡ (codes "{\"args\":[" ++ (word ++ (codes "],\"call\":\"" ++ (method ++ codes "\",\"object\":"))))
    ++ (object ++ (codes ",\"sender\":" ++ (sender ++ (codes ",\"session\":\"" ++ (session ++ codes "\"}\n")))))
around_call word method object sender session = simp append_assoc

-- the line where its values are written as one word or as nothing
pub text_of_call : (call : Call) (word method session : List ℕ) → IsTrue (is_session_text session) → list_all is_plain_byte method ≡ true → method ≡ call.method
    → 91 ∷ (word ++ 93 ∷ []) ≡ compact_text (array_of json_of call.args)
    → (codes "{\"args\":[" ++ (word ++ (codes "],\"call\":\"" ++ (method ++ codes "\",\"object\":"))))
    ++ (decimal call.object ++ (codes ",\"sender\":" ++ (decimal call.sender ++ (codes ",\"session\":\"" ++ (session ++ codes "\"}\n")))))
    ≡ text_of_line session (a_line.Call call)
text_of_call call word method session named plain same values =
    let args = sym values in
    let quoted = ap (λ text. compact_text (string text)) (sym same) ∙ text_of_plain method plain in
    let told = text_of_plain session (session_is_plain session named) in
    sym (call_line call session
    ∙ (λ i. call_around (args i) (quoted i) (decimal call.object) (decimal call.sender) (told i))
    ∙ around_call word method (decimal call.object) (decimal call.sender) session)

-- The text that is read of what is written.
use Rattle.std.proofs.Common.{◌≡◌, ℕ, lit<, Bool, true, false, not, ◌&&◌, List, [], ◌∷◌, ◌++◌, refl, sym, ap, ◌∙◌, append_assoc, append-nil}
use Rattle.std.specs.Prelude.{◌==◌, Result, Ok, Err, OnOk, codes, if◌then◌else◌, is_ok}
use Rattle.std.specs.Char.{is_whitespace}
use Rattle.std.specs.List.{list_all}
use Rattle.std.specs.Str.{byte}
use Rattle.std.proofs.lemmas.Str.{encode_ascii}
use lib.Utf8.{encode, encodes}
use Rattle.cite_texts.specs.Lines.{is_of_no_line}
use Rattle.write_html.specs.Nesting.{Leads}
use Rattle.write_html.specs.Reading.{Token, Letter, Reference, Tag, InText, behind, tokens, where_after}
use Rattle.write_html.specs.Shown.{in_line}
use Rattle.write_html.specs.Text.{character, text_in, text_of}
use Rattle.write_html.proofs.Appended.{tokens-append}
use Rattle.write_html.proofs.Pushed.{all_encode, high_plain, is_plain, left, right, stays, letter}

pub text_of-append : (xs ys : List Token) → text_of (xs ++ ys) ≡ text_of xs ++ text_of ys
text_of-append [] ys = refl
text_of-append (Letter b ∷ xs) ys = ap (λ t. b ∷ t) (text_of-append xs ys)
text_of-append (Reference r ∷ xs) ys =
    ap (λ t. character r ++ t) (text_of-append xs ys)
    ∙ sym (append_assoc (character r) (text_of xs) (text_of ys))
text_of-append (Tag t ∷ xs) ys = text_of-append xs ys

-- behind HTML that ends in text
pub text_in-append : (xs ys : List ℕ) → where_after InText xs ≡ InText → text_in (xs ++ ys) ≡ text_in xs ++ text_in ys
text_in-append xs ys e =
    ap text_of (tokens-append InText xs ys)
    ∙ (text_of-append (tokens InText xs) (tokens (where_after InText xs) ys)
    ∙ ap (λ w. text_in xs ++ text_of (tokens w ys)) e)

pub text_in-plain : (bs : List ℕ) → list_all is_plain bs ≡ true → text_in bs ≡ bs
text_in-plain [] h = refl
text_in-plain (b ∷ bs) h =
    let here : is_plain b ≡ true = left (is_plain b) (list_all is_plain bs) h in
    let rest : text_in bs ≡ bs = text_in-plain bs (right (is_plain b) (list_all is_plain bs) h) in
    ap (λ ts. text_of (ts ++ tokens (behind InText b) bs)) (letter (b == byte "<") (b == byte "&") b here)
    ∙ (ap (λ w. b ∷ text_of (tokens w bs)) (stays (b == byte "<") (b == byte "&") here)
    ∙ ap (λ t. b ∷ t) rest)

pub text_in-char : (c : ℕ) → is_plain c ≡ true → text_in (encode c) ≡ encode c
text_in-char c h = text_in-plain (encode c) (all_encode is_plain high_plain c h)

pub reads_38 : text_in (codes "&#38;") ≡ encode 38
reads_38 = sym (encode_ascii 38 (lit< tt))

pub reads_60 : text_in (codes "&#60;") ≡ encode 60
reads_60 = sym (encode_ascii 60 (lit< tt))

pub reads_62 : text_in (codes "&#62;") ≡ encode 62
reads_62 = sym (encode_ascii 62 (lit< tt))

-- ---- what is written behind other HTML, or not

pub text_added : (old new more text : List ℕ) (before after : List (List ℕ)) → new ≡ old ++ more → Leads old before after → text_in more ≡ text → text_in new ≡ text_in old ++ text
text_added old new more text before after e first t =
    ap text_in e ∙ (text_in-append old more first.ends ∙ ap (λ x. text_in old ++ x) t)

pub text_written : {E : Type 0} (r : Result (Unit {0}) E) (old new more text : List ℕ) (before after : List (List ℕ)) → new ≡ (if is_ok r then old ++ more else old) → Leads old before after → text_in more ≡ text → OnOk r (text_in new ≡ text_in old ++ text)
text_written (Ok x) old new more text before after e first t = text_added old new more text before after e first t
text_written (Err x) old new more text before after e first t = tt

pub text_same : (old new more : List ℕ) (before after : List (List ℕ)) → new ≡ old ++ more → Leads old before after → text_in more ≡ [] → text_in new ≡ text_in old
text_same old new more before after e first t = text_added old new more [] before after e first t ∙ append-nil (text_in old)

-- ---- one more character of a line

pub letter_of_line : (takes_space : Bool) (c : ℕ) (more old new : List ℕ) (takes : Bool) → is_of_no_line c ≡ false → takes ≡ not (c == byte " ") → new ≡ old ++ encode c → new ++ encodes (in_line takes more) ≡ old ++ encodes (in_line takes_space (c ∷ more))
letter_of_line takes_space c more old new takes h e f =
    ap (λ x. x ++ encodes (in_line takes more)) f
    ∙ (append_assoc old (encode c) (encodes (in_line takes more))
    ∙ (ap (λ t. old ++ (encode c ++ encodes (in_line t more))) e
    ∙ ap (λ b. old ++ encodes (if b then (if is_whitespace c && takes_space then byte " " ∷ in_line false more else in_line takes_space more) else c ∷ in_line (not (c == byte " ")) more)) (sym h)))

pub space_of_line : (takes_space : Bool) (c : ℕ) (more old new : List ℕ) → is_of_no_line c ≡ true → (is_whitespace c && takes_space) ≡ true → new ≡ old ++ encode 32 → new ++ encodes (in_line false more) ≡ old ++ encodes (in_line takes_space (c ∷ more))
space_of_line takes_space c more old new h k f =
    ap (λ x. x ++ encodes (in_line false more)) f
    ∙ (append_assoc old (encode 32) (encodes (in_line false more))
    ∙ (ap (λ b. old ++ encodes (if b then byte " " ∷ in_line false more else in_line takes_space more)) (sym k)
    ∙ ap (λ b. old ++ encodes (if b then (if is_whitespace c && takes_space then byte " " ∷ in_line false more else in_line takes_space more) else c ∷ in_line (not (c == byte " ")) more)) (sym h)))

pub nothing_of_line : (takes_space : Bool) (c : ℕ) (more old : List ℕ) → is_of_no_line c ≡ true → (is_whitespace c && takes_space) ≡ false → old ++ encodes (in_line takes_space more) ≡ old ++ encodes (in_line takes_space (c ∷ more))
nothing_of_line takes_space c more old h k =
    ap (λ b. old ++ encodes (if b then byte " " ∷ in_line false more else in_line takes_space more)) (sym k)
    ∙ ap (λ b. old ++ encodes (if b then (if is_whitespace c && takes_space then byte " " ∷ in_line false more else in_line takes_space more) else c ∷ in_line (not (c == byte " ")) more)) (sym h)

-- What is read behind what is written.
use Rattle.std.proofs.Common.{◌≡◌, ℕ, ◌+◌, ◌/◌, ◌%◌, ◌≤◌, lit≤, ltb, Bool, true, false, cond, not, ◌&&◌, List, [], ◌∷◌, ◌++◌, map, reverse, refl, sym, ap, subst, ◌∙◌, arith}
use Rattle.std.specs.Prelude.{◌-◌, ◌<◌, ◌==◌, Option, Some, if◌then◌else◌, length, option_to_list, slice_get, slice_index_or}
use Rattle.std.specs.List.{list_all}
use Rattle.std.specs.Str.{byte}
use Rattle.std.proofs.lemmas.Bool.Decides.{nat_tests}
use Rattle.std.proofs.lemmas.List.{map-append, reverse-append}
use Rattle.std.proofs.lemmas.List.Folds.{list_all-append}
use Rattle.std.proofs.lemmas.Option.{get_or_from_slice_get, slice_get_within}
use lib.Utf8.{encode}
use Rattle.write_html.specs.Address.{is_of_value}
use Rattle.write_html.specs.Names.{names, tag_name}
use Rattle.write_html.specs.Nesting.{Closes, Leads, Opens, opened}
use Rattle.write_html.specs.Reading.{Letter, InText, InReference, InTag, behind, tokens, where_after}
use Rattle.write_html.specs.declared.tag.Tag.{Tag}
use Rattle.write_html.proofs.Appended.{Leads-append}

-- ---- lists of which each element passes

pub both : (p q : Bool) → p ≡ true → q ≡ true → (p && q) ≡ true
both true q a b = b
both false q a b = a

pub left : (p q : Bool) → (p && q) ≡ true → p ≡ true
left true q h = refl
left false q h = h

pub right : (p q : Bool) → (p && q) ≡ true → q ≡ true
right true q h = h
right false q h = absurd (cc h)

pub all_append : (p : ℕ → Bool) (xs ys : List ℕ) → list_all p xs ≡ true → list_all p ys ≡ true → list_all p (xs ++ ys) ≡ true
all_append p xs ys a b = list_all-append p xs ys ∙ both (list_all p xs) (list_all p ys) a b

pick : (p : ℕ → Bool) (b : Bool) (xs ys : List ℕ) → list_all p xs ≡ true → list_all p ys ≡ true → list_all p (cond b xs ys) ≡ true
pick p true xs ys a b = a
pick p false xs ys a b = b

more : (p : ℕ → Bool) (x : ℕ) (xs : List ℕ) → p x ≡ true → list_all p xs ≡ true → list_all p (x ∷ xs) ≡ true
more p x xs a b = both (p x) (list_all p xs) a b

from : (p : ℕ → Bool) → ((b : ℕ) → 128 ≤ b → p b ≡ true) → (k x : ℕ) → 128 ≤ k → p (k + x) ≡ true
from p high k x h = let more : 128 ≤ k + x = omega arith in high (k + x) more

-- the bytes of a character are itself, or bytes from 128 on
pub all_encode : (p : ℕ → Bool) → ((b : ℕ) → 128 ≤ b → p b ≡ true) → (c : ℕ) → p c ≡ true → list_all p (encode c) ≡ true
unfolding encode
all_encode p high c here =
    let last : ℕ = 128 + c % 64 in
    let third : ℕ = 128 + c / 64 % 64 in
    let second : ℕ = 128 + c / 4096 % 64 in
    let two : ℕ = 192 + c / 64 in
    let three : ℕ = 224 + c / 4096 in
    let four : ℕ = 240 + c / 262144 in
    let next : (x : ℕ) → p (128 + x) ≡ true = λ x. from p high 128 x (lit≤ tt) in
    let ends : list_all p (last ∷ []) ≡ true = more p last [] (next (c % 64)) refl in
    let ends2 : list_all p (third ∷ last ∷ []) ≡ true = more p third (last ∷ []) (next (c / 64 % 64)) ends in
    let ends3 : list_all p (second ∷ third ∷ last ∷ []) ≡ true = more p second (third ∷ last ∷ []) (next (c / 4096 % 64)) ends2 in
    pick p (ltb c 128) (c ∷ []) (cond (ltb c 2048) (two ∷ last ∷ []) (cond (ltb c 65536) (three ∷ third ∷ last ∷ []) (four ∷ second ∷ third ∷ last ∷ [])))
    (more p c [] here refl)
    (pick p (ltb c 2048) (two ∷ last ∷ []) (cond (ltb c 65536) (three ∷ third ∷ last ∷ []) (four ∷ second ∷ third ∷ last ∷ []))
    (more p two (last ∷ []) (from p high 192 (c / 64) (lit≤ tt)) ends)
    (pick p (ltb c 65536) (three ∷ third ∷ last ∷ []) (four ∷ second ∷ third ∷ last ∷ [])
    (more p three (third ∷ last ∷ []) (from p high 224 (c / 4096) (lit≤ tt)) ends2)
    (more p four (second ∷ third ∷ last ∷ []) (from p high 240 (c / 262144) (lit≤ tt)) ends3)))

pub all_written : (p : ℕ → Bool) (b : Bool) (old new more : List ℕ) → new ≡ (if b then old ++ more else old) → list_all p old ≡ true → list_all p more ≡ true → list_all p new ≡ true
all_written p true old new more e first second = ap (list_all p) e ∙ all_append p old more first second
all_written p false old new more e first second = ap (list_all p) e ∙ first

pub high_of_value : (b : ℕ) → 128 ≤ b → is_of_value b ≡ true
high_of_value b h = grind (arith, nat_tests)

-- ---- texts

-- no byte begins a tag or a reference
abbrev pub is_plain : ℕ → Bool
is_plain b = not (b == byte "<") && not (b == byte "&")

pub high_plain : (b : ℕ) → 128 ≤ b → is_plain b ≡ true
high_plain b h = grind (arith, nat_tests)

pub stays : (p q : Bool) → (not p && not q) ≡ true → (if p then InTag [] else (if q then InReference [] else InText)) ≡ InText
stays true q h = absurd (cc h)
stays false true h = absurd (cc h)
stays false false h = refl

pub letter : (p q : Bool) (b : ℕ) → (not p && not q) ≡ true → (if p then [] else (if q then [] else Letter b ∷ [])) ≡ Letter b ∷ []
letter true q b h = absurd (cc h)
letter false true b h = absurd (cc h)
letter false false b h = refl

pub Leads-plain : (bs : List ℕ) (elements : List (List ℕ)) → list_all is_plain bs ≡ true → Leads bs elements elements
Leads-plain [] elements h = record { ends = refl; nests = refl }
Leads-plain (b ∷ bs) elements h =
    let here : is_plain b ≡ true = left (is_plain b) (list_all is_plain bs) h in
    let rest : Leads bs elements elements = Leads-plain bs elements (right (is_plain b) (list_all is_plain bs) h) in
    let text : behind InText b ≡ InText = stays (b == byte "<") (b == byte "&") here in
    record {
      ends = ap (λ w. where_after w bs) text ∙ rest.ends;
      nests = ap (λ ts. opened elements (ts ++ tokens (behind InText b) bs)) (letter (b == byte "<") (b == byte "&") b here)
          ∙ (ap (λ w. opened elements (tokens w bs)) text ∙ rest.nests);
    }

pub Leads-char : (c : ℕ) (elements : List (List ℕ)) → is_plain c ≡ true → Leads (encode c) elements elements
Leads-char c elements h = Leads-plain (encode c) elements (all_encode is_plain high_plain c h)

-- ---- what is written behind other HTML, or not

pub Leads-written : (b : Bool) (old new more : List ℕ) (before after : List (List ℕ)) → new ≡ (if b then old ++ more else old) → Leads old before after → Leads more after after → Leads new before after
Leads-written true old new more before after e first second =
    subst (λ bs. Leads bs before after) (sym e) (Leads-append old more before after after first second)
Leads-written false old new more before after e first second =
    subst (λ bs. Leads bs before after) (sym e) first

pub names-push : (ts : List Tag) (t : Tag) → names (ts ++ t ∷ []) ≡ tag_name t ∷ names ts
names-push ts t =
    ap reverse (map-append tag_name ts (t ∷ [])) ∙ reverse-append (map tag_name ts) (tag_name t ∷ [])

pub Leads-opened : (old new more : List ℕ) (ts us : List Tag) (t : Tag) (before : List (List ℕ)) → new ≡ old ++ more → us ≡ ts ++ t ∷ [] → Leads old before (names ts) → Opens more (tag_name t) → Leads new before (names us)
Leads-opened old new more ts us t before e f first opens =
    subst (λ bs. Leads bs before (names us)) (sym e)
    (subst (λ ns. Leads (old ++ more) before ns) (sym (ap names f ∙ names-push ts t))
    (Leads-append old more before (names ts) (tag_name t ∷ names ts) first (opens (names ts))))

pub Leads-closed : (old new more : List ℕ) (ts us : List Tag) (t : Tag) (before : List (List ℕ)) → new ≡ old ++ more → ts ≡ us ++ t ∷ [] → Leads old before (names ts) → Closes more (tag_name t) → Leads new before (names us)
Leads-closed old new more ts us t before e f first closes =
    subst (λ bs. Leads bs before (names us)) (sym e)
    (Leads-append old more before (tag_name t ∷ names us) (names us)
    (subst (λ ns. Leads old before ns) (ap names f ∙ names-push us t) first) (closes (names us)))

-- ---- the last of a list

pub popped : {T : Type 0} (ts us : List T) (n : ℕ) (r : Option T) (t : T) → n ≡ length ts → slice_get ts (length ts - 1) ≡ Some t → ts ≡ us ++ option_to_list r → ((d : T) → 0 < n → r ≡ Some (slice_index_or ts (n - 1) d)) → ts ≡ us ++ t ∷ []
popped ts us n r t same last e value =
    let within : length ts - 1 < length ts = slice_get_within ts (length ts - 1) t last in
    let place : n - 1 ≡ length ts - 1 = omega arith in
    let some : r ≡ Some t = value t (omega arith)
    ∙ ap Some (ap (λ i. slice_index_or ts i t) place ∙ get_or_from_slice_get ts (length ts - 1) t t last) in
    e ∙ ap (λ o. us ++ option_to_list o) some

-- Links, and their addresses.
use Rattle.std.proofs.Common.{◌≡◌, ℕ, ◌-◌, Bool, true, false, not, ◌&&◌, List, [], ◌∷◌, ◌++◌, map, refl, sym, ap, subst, ◌∙◌, arith, length, take, append_assoc, length-append, append-nil}
use Rattle.std.specs.Prelude.{◌==◌, Result, Ok, Err, OnOk, bytes_eq, codes, Some, if◌then◌else◌, nat_eq, option_and_then}
use Rattle.std.specs.Char.{to_ascii_lowercase}
use Rattle.std.specs.List.{list_all, starts_with}
use Rattle.std.specs.Str.{byte}
use Rattle.std.proofs.Math.Seq.{take-append_seam}
use Rattle.std.proofs.lemmas.List.{length-map, take-map}
use Rattle.std.proofs.lemmas.Slice.Eq.{bytes_eq-Decides}
use Rattle.write_html.specs.Address.{is_allowed, is_address, is_of_value}
use Rattle.write_html.specs.Names.{link_name}
use Rattle.write_html.specs.Nesting.{Opens, closed, is_link, link_to, name_in, opened, value_in}
use Rattle.write_html.specs.Reading.{Tag, InText, InTag, InValue, behind, tokens, where_after}
use Rattle.write_html.specs.Text.{text_in, text_of}
use Rattle.write_html.proofs.Appended.{tokens-append, where_after-append}
use Rattle.write_html.proofs.Pushed.{both, left, right}

pub on_ok : {E P : Type 0} (r : Result (Unit {0}) E) → P → OnOk r P
on_ok (Ok x) p = p
on_ok (Err e) p = tt

-- ---- how a text begins

pub begins : (head text scheme : List ℕ) → head ≡ take (length scheme) text → map to_ascii_lowercase head ≡ map to_ascii_lowercase scheme → starts_with nat_eq (map to_ascii_lowercase text) (map to_ascii_lowercase scheme) ≡ true
begins head text scheme e same =
    let front : map to_ascii_lowercase scheme ≡ take (length (map to_ascii_lowercase scheme)) (map to_ascii_lowercase text) =
    sym same ∙ (ap (map to_ascii_lowercase) e
    ∙ (sym (take-map to_ascii_lowercase (length scheme) text)
    ∙ ap (λ n. take n (map to_ascii_lowercase text)) (sym (length-map scheme to_ascii_lowercase)))) in
    (bytes_eq-Decides (map to_ascii_lowercase scheme) (take (length (map to_ascii_lowercase scheme)) (map to_ascii_lowercase text))).1 front

-- ---- the value of an attribute

quoted : (p : Bool) (q : Bool) (read : List ℕ) (b : ℕ) → (not p && q) ≡ true → (if p then InTag (read ++ b ∷ []) else InValue (read ++ b ∷ [])) ≡ InValue (read ++ b ∷ [])
quoted true q read b h = absurd (cc h)
quoted false q read b h = refl

stays : (read : List ℕ) (b : ℕ) → is_of_value b ≡ true → behind (InValue read) b ≡ InValue (read ++ b ∷ [])
stays read b h = quoted (b == byte "\"") true read b
    (both (not (b == byte "\"")) true
    (left (not (b == byte "\"")) (not (b == byte "<"))
    (left (not (b == byte "\"") && not (b == byte "<")) (not (b == byte ">")) h)) refl)

ends_value : (v read : List ℕ) → list_all is_of_value v ≡ true → where_after (InValue read) v ≡ InValue (read ++ v)
ends_value [] read h = ap InValue (sym (append-nil read))
ends_value (b ∷ bs) read h =
    ap (λ w. where_after w bs) (stays read b (left (is_of_value b) (list_all is_of_value bs) h))
    ∙ (ends_value bs (read ++ b ∷ []) (right (is_of_value b) (list_all is_of_value bs) h)
    ∙ ap InValue (append_assoc read (b ∷ []) bs))

reads_value : (v read : List ℕ) → list_all is_of_value v ≡ true → tokens (InValue read) v ≡ []
reads_value [] read h = refl
reads_value (b ∷ bs) read h =
    ap (λ w. tokens w bs) (stays read b (left (is_of_value b) (list_all is_of_value bs) h))
    ∙ reads_value bs (read ++ b ∷ []) (right (is_of_value b) (list_all is_of_value bs) h)

-- ---- the tag of a link

value_in-link : (v : List ℕ) → value_in (link_to v) ≡ v
value_in-link v =
    let n : length (link_to v) - 9 ≡ length v = omega (arith, length-append v (codes "\"")) in
    ap (λ k. take k (v ++ codes "\"")) n ∙ take-append_seam v (codes "\"")

is_link-link : (v : List ℕ) → is_address v ≡ true → is_link (link_to v) ≡ true
is_link-link v h =
    subst (λ x. (bytes_eq (link_to v) (link_to x) && is_address x) ≡ true) (sym (value_in-link v))
    (both (bytes_eq (link_to v) (link_to v)) (is_address v) ((bytes_eq-Decides (link_to v) (link_to v)).1 refl) h)

nests_link : (v : List ℕ) (outer : List (List ℕ)) → is_address v ≡ true → opened outer (Tag (link_to v) ∷ []) ≡ Some (link_name ∷ outer)
nests_link v outer h =
    ap (λ b. option_and_then (λ inside. opened inside []) (if b then Some (name_in (link_to v) ∷ outer) else closed outer (link_to v))) (is_link-link v h)

pub Opens-link : (v : List ℕ) → is_address v ≡ true → Opens ((codes "<a href=\"" ++ v) ++ codes "\">") link_name
Opens-link v h outer =
    let of_value : list_all is_of_value v ≡ true = left (list_all is_of_value v) (is_allowed v) h in
    let inside : where_after InText (codes "<a href=\"" ++ v) ≡ InValue (codes "a href=\"" ++ v) =
    ends_value v (codes "a href=\"") of_value in
    let nothing : tokens InText (codes "<a href=\"" ++ v) ≡ [] = reads_value v (codes "a href=\"") of_value in
    record {
      ends = where_after-append InText (codes "<a href=\"" ++ v) (codes "\">")
          ∙ ap (λ w. where_after w (codes "\">")) inside;
      nests = ap (opened outer) (tokens-append InText (codes "<a href=\"" ++ v) (codes "\">"))
          ∙ (ap (λ ts. opened outer (ts ++ tokens (where_after InText (codes "<a href=\"" ++ v)) (codes "\">"))) nothing
          ∙ (ap (λ w. opened outer (tokens w (codes "\">"))) inside ∙ nests_link v outer h));
    }

pub Opens-written : (tag first second v : List ℕ) → tag ≡ second ++ codes "\">" → second ≡ first ++ v → first ≡ codes "<a href=\"" → is_address v ≡ true → Opens tag link_name
Opens-written tag first second v e f g h =
    let same : tag ≡ (codes "<a href=\"" ++ v) ++ codes "\">" =
    e ∙ ap (λ bs. bs ++ codes "\">") (f ∙ ap (λ bs. bs ++ v) g) in
    subst (λ bs. Opens bs link_name) (sym same) (Opens-link v h)

no_text-link : (v : List ℕ) → is_address v ≡ true → text_in ((codes "<a href=\"" ++ v) ++ codes "\">") ≡ []
no_text-link v h =
    let of_value : list_all is_of_value v ≡ true = left (list_all is_of_value v) (is_allowed v) h in
    let inside : where_after InText (codes "<a href=\"" ++ v) ≡ InValue (codes "a href=\"" ++ v) =
    ends_value v (codes "a href=\"") of_value in
    let nothing : tokens InText (codes "<a href=\"" ++ v) ≡ [] = reads_value v (codes "a href=\"") of_value in
    ap text_of (tokens-append InText (codes "<a href=\"" ++ v) (codes "\">"))
    ∙ (ap (λ ts. text_of (ts ++ tokens (where_after InText (codes "<a href=\"" ++ v)) (codes "\">"))) nothing
    ∙ ap (λ w. text_of (tokens w (codes "\">"))) inside)

pub no_text-written : (tag first second v : List ℕ) → tag ≡ second ++ codes "\">" → second ≡ first ++ v → first ≡ codes "<a href=\"" → is_address v ≡ true → text_in tag ≡ []
no_text-written tag first second v e f g h =
    let same : tag ≡ (codes "<a href=\"" ++ v) ++ codes "\">" =
    e ∙ ap (λ bs. bs ++ codes "\">") (f ∙ ap (λ bs. bs ++ v) g) in
    ap text_in same ∙ no_text-link v h

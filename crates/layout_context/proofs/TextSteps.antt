-- Where a trimmed text ends, and what the two steps on the text before give.
use Rattle.std.proofs.lemmas.List.{at_drop_more}
use Rattle.layout_context.specs.Steps.{kept_of, kept_after, is_mark, is_seen, no_break_space, visible_from}
use Rattle.std.specs.Prelude.{Option, Some, ◌||◌, ◌==◌}
use Rattle.std.specs.Char.{encode_utf8}
use Prim.Native.Char.{code}
use Rattle.std.specs.List.{slice_get}
use Rattle.std.proofs.lemmas.Bool.Decides.{nat_tests}
use Rattle.std.proofs.Common.{drop, get_or, append_assoc, ap, ◌≡◌, ℕ, ◌+◌, ◌-◌, ◌≤◌, ◌<◌, Bool, None, true, false, List, [], ◌∷◌, ◌++◌, length, take, sym, ◌∙◌, arith, refl}
use Rattle.std.specs.Bool.{MatchBool, OnTrue}
use Rattle.std.specs.Str.Pattern.{HasSuffixMatch, FindsTextSuffix}
use Rattle.std.specs.Str.{IsUtf8, IsTrimEnd, IsCharBoundary}
use Rattle.std.proofs.lemmas.Str.{IsCharBoundary-from_take, IsCharBoundary-after_ascii}

-- a trimmed text is a beginning of the text
pub take_of_trim : (bs r : List ℕ) → IsTrimEnd bs r → r ≡ take (length r) bs
take_of_trim bs r t =
    let n = t.0 in
    rw t.4 t.1

-- a text may be cut where its trimmed part ends
pub boundary_at_trim : (bs r : List ℕ) → IsUtf8 bs → IsUtf8 r → IsTrimEnd bs r → IsCharBoundary bs (length r)
boundary_at_trim bs r u v t =
    let n = t.0 in
    let bound : length r ≤ length bs = omega arith in
    IsCharBoundary-from_take bs (length r) u bound (rw (← take_of_trim bs r t) v)

-- nor does the cut of an ending that a text has
pub split_at_ending : (r : Bool) (e bs : List ℕ) → MatchBool r (HasSuffixMatch (FindsTextSuffix e) bs) (FindsTextSuffix e bs None) → OnTrue r (IsCharBoundary bs (length bs - length e))
split_at_ending false e bs h = tt
split_at_ending true e bs h = h.1.2

-- one more character is written
pub kept_step : (cs : List ℕ) (n c : ℕ) (dot : Bool) (new old all : List ℕ) → (n < length cs) × (c ≡ get_or cs n c) → new ≡ old ++ kept_of dot c → old ++ kept_after dot (drop n cs) ≡ all → new ++ kept_after (c == code ".") (drop (n + 1) cs) ≡ all
kept_step cs n c dot new old all h p i =
    let e : kept_after dot (drop n cs) ≡ kept_of dot c ++ kept_after (c == code ".") (drop (n + 1) cs) =
    at_drop_more (kept_after dot) cs n c h.0 ∙ ap (λ x. kept_of dot x ++ kept_after (x == code ".") (drop (n + 1) cs)) (sym h.1) in
    rw (p, append_assoc, ← e) i

-- a no-break space takes two bytes
pub no_break_space_bytes : 194 ∷ 160 ∷ [] ≡ no_break_space
unfolding encode_utf8
no_break_space_bytes = refl

mark_ascii : (c : ℕ) → is_mark c ≡ true → c < 128
mark_ascii c e = grind (arith, nat_tests)

-- a mark takes one byte
pub boundary_after_mark : (bs : List ℕ) (c : ℕ) → IsUtf8 bs → slice_get bs 0 ≡ Some c → (b : Bool) → b ≡ is_mark c → OnTrue b (IsCharBoundary bs 1)
boundary_after_mark [] c u s b e = cc
boundary_after_mark (d ∷ bs) c u s false e = tt
boundary_after_mark (d ∷ bs) c u s true e =
    let same : ◌≡◌ {A = Option ℕ} (Some d) (Some c) = s in
    let is : d ≡ c = cc in
    let small : d < 128 = rw is (mark_ascii c (sym e)) in
    IsCharBoundary-after_ascii (d ∷ bs) 0 u (omega arith) small

-- one more character
visible_step : (cs : List ℕ) (n c left : ℕ) → (n < length cs) × (c ≡ get_or cs n c) → visible_from left (drop n cs) ≡ is_seen left c || visible_from (left - length (encode_utf8 c)) (drop (n + 1) cs)
visible_step cs n c left h =
    at_drop_more (visible_from left) cs n c h.0 ∙ ap (λ x. is_seen left x || visible_from (left - length (encode_utf8 x)) (drop (n + 1) cs)) (sym h.1)

-- one that begins before the offset ends, or is white space
pub visible_more : (cs : List ℕ) (n c left : ℕ) (all : Bool) → (n < length cs) × (c ≡ get_or cs n c) → is_seen left c ≡ false → visible_from left (drop n cs) ≡ all → visible_from (left - length (encode_utf8 c)) (drop (n + 1) cs) ≡ all
visible_more cs n c left all h e i =
    sym (visible_step cs n c left h ∙ ap (λ b. b || visible_from (left - length (encode_utf8 c)) (drop (n + 1) cs)) e) ∙ i

-- and one that is seen
pub visible_here : (cs : List ℕ) (n c left : ℕ) (all : Bool) → (n < length cs) × (c ≡ get_or cs n c) → is_seen left c ≡ true → visible_from left (drop n cs) ≡ all → true ≡ all
visible_here cs n c left all h e i =
    sym (visible_step cs n c left h ∙ ap (λ b. b || visible_from (left - length (encode_utf8 c)) (drop (n + 1) cs)) e) ∙ i

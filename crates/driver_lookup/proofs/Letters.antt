-- The letters of suffixes: their recursion, and what they are worth.
use Rattle.std.proofs.Common.{◌≡◌, ℕ, zero, suc, ◌+◌, ◌-◌, ◌*◌, ◌/◌, ◌%◌, ◌<◌, ◌≤◌, Bool, true, false, List, [], ◌∷◌, ◌++◌, cond, ltb, refl, sym, ap, ◌∙◌, arith, All, append_assoc}
use Rattle.std.proofs.lemmas.Bool.{lt-ltb, le-ltb, ltb-true, ltb-false}
use Rattle.std.proofs.lemmas.List.Sums.{fold-append}
use Rattle.std.proofs.lemmas.List.Elements.{All-append}
use Rattle.driver_lookup.specs.SuffixLetters.{letter, letters_within, suffix_letters, worth, IsSmallLetter, AreLettersOf, SuffixesDiffer}
use Prim.Native.Char.{code}

alone : (k n : ℕ) → n < 26 → letters_within k n ≡ letter n ∷ []
alone zero n h = refl
alone (suc k) n h = ap (λ b. cond b [] (letters_within k (n / 26 - 1)) ++ letter n ∷ []) (lt-ltb n 26 h)

behind : (k n : ℕ) → 26 ≤ n → letters_within (suc k) n ≡ letters_within k (n / 26 - 1) ++ letter n ∷ []
behind k n h = ap (λ b. cond b [] (letters_within k (n / 26 - 1)) ++ letter n ∷ []) (le-ltb n 26 h)

-- the bound is not felt
enough_by : (b : Bool) (k m n : ℕ) → ltb n 26 ≡ b → n ≤ k → n ≤ m → letters_within k n ≡ letters_within m n
enough_by true k m n e h l = alone k n (ltb-true n 26 e) ∙ sym (alone m n (ltb-true n 26 e))
enough_by false zero m n e h l = absurd (omega (arith, ltb-false n 26 e, h))
enough_by false (suc k) zero n e h l = absurd (omega (arith, ltb-false n 26 e, l))
enough_by false (suc k) (suc m) n e h l =
    let large = ltb-false n 26 e in
    let front = n / 26 - 1 in
    behind k n large ∙ ap (λ ls. ls ++ letter n ∷ []) (enough_by (ltb front 26) k m front refl (omega (arith, large)) (omega (arith, large))) ∙ sym (behind m n large)

pub letters_alone : (n : ℕ) → n < 26 → suffix_letters n ≡ letter n ∷ []
unfolding suffix_letters
letters_alone n h = alone n n h

more_within : (k n : ℕ) → n ≡ suc k → 26 ≤ n → letters_within n n ≡ letters_within (n / 26 - 1) (n / 26 - 1) ++ letter n ∷ []
more_within k n e h =
    let front = n / 26 - 1 in
    ap (λ m. letters_within m n) e ∙ behind k n h ∙ ap (λ ls. ls ++ letter n ∷ []) (enough_by (ltb front 26) k front front refl (omega (arith, e)) (omega arith))

pub letters_behind : (n : ℕ) → 26 ≤ n → suffix_letters n ≡ suffix_letters (n / 26 - 1) ++ letter n ∷ []
unfolding suffix_letters
letters_behind n h = more_within (n - 1) n (omega (arith, h)) h

one_more : (ls : List ℕ) (n v : ℕ) → worth ls ≡ v → worth (ls ++ letter n ∷ []) ≡ v * 26 + (n % 26 + 1)
one_more ls n v e = fold-append (λ sum l. sum * 26 + (l - code "a" + 1)) 0 ls (letter n ∷ []) ∙ omega (arith, e)

worth_by : (b : Bool) (k n : ℕ) → ltb n 26 ≡ b → n ≤ k → worth (letters_within k n) ≡ n + 1
worth_by true k n e h = let small = ltb-true n 26 e in ap worth (alone k n small) ∙ omega (arith, small)
worth_by false zero n e h = absurd (omega (arith, ltb-false n 26 e, h))
worth_by false (suc k) n e h =
    let large = ltb-false n 26 e in
    let front = n / 26 - 1 in
    ap worth (behind k n large) ∙ one_more (letters_within k front) n (front + 1) (worth_by (ltb front 26) k front refl (omega (arith, large))) ∙ omega (arith, large)

is_small : (n : ℕ) → IsSmallLetter (letter n)
is_small n = (omega arith, omega arith)

one_small : (n : ℕ) → All IsSmallLetter (letter n ∷ [])
one_small n zero d h = is_small n
one_small n (suc k) d h = absurd (omega (arith, h))

small_by : (b : Bool) (front : List ℕ) (n : ℕ) → All IsSmallLetter front → All IsSmallLetter (cond b [] front ++ letter n ∷ [])
small_by true front n h = one_small n
small_by false front n h = All-append IsSmallLetter front _ h (one_small n)

small_within : (k n : ℕ) → All IsSmallLetter (letters_within k n)
small_within zero n = one_small n
small_within (suc k) n = small_by (ltb n 26) _ n (small_within k (n / 26 - 1))

are_letters : (n : ℕ) → AreLettersOf n (suffix_letters n)
unfolding suffix_letters
are_letters n = record { small = small_within n n; worth_more = worth_by (ltb n 26) n n refl (omega arith) }

pub suffixes_differ : SuffixesDiffer
suffixes_differ = record {
  letters = are_letters;
  different = λ m n e. let sums = sym (are_letters m).worth_more ∙ ap worth e ∙ (are_letters n).worth_more in omega (arith, sums);
}

-- what a push of the last letter makes of the text before it
pub pushed_alone : (n ch : ℕ) (old text last new : List ℕ) → n < 26 → text ≡ old → ch ≡ letter n → last ≡ ch ∷ [] → new ≡ text ++ last → new ≡ old ++ suffix_letters n
pushed_alone n ch old text last new h p e f q =
    q ∙ (λ i. p i ++ f i) ∙ ap (λ l. old ++ l ∷ []) e ∙ ap (λ ls. old ++ ls) (sym (letters_alone n h))

pub pushed_behind : (n ch : ℕ) (old text last new : List ℕ) → 26 ≤ n → text ≡ old ++ suffix_letters (n / 26 - 1) → ch ≡ letter n → last ≡ ch ∷ [] → new ≡ text ++ last → new ≡ old ++ suffix_letters n
pushed_behind n ch old text last new h p e f q =
    q ∙ (λ i. p i ++ f i) ∙ ap (λ l. (old ++ suffix_letters (n / 26 - 1)) ++ l ∷ []) e ∙ append_assoc old (suffix_letters (n / 26 - 1)) (letter n ∷ []) ∙ ap (λ ls. old ++ ls) (sym (letters_behind n h))

-- Forms that rules give by themselves show the names that the rules show.
use Rattle.std.proofs.Common.{◌≡◌, ℕ, zero, suc, ◌-◌, ◌+◌, ◌<◌, ◌≤◌, min, Bool, true, false, cond, ◌&&◌, ◌∷◌, ◌++◌, length, get_or, replicate, refl, ap, ◌∙◌, arith, length-append, Some, None, Option, is_some}
use Rattle.std.proofs.lemmas.List.{length-replicate}
use Rattle.std.proofs.lemmas.List.Elements.{All-replicate}
use Rattle.std.specs.List.{position_or_len}
use Rattle.std.proofs.lemmas.List.Sums.{suffix_len_is}
use Rattle.std.proofs.lemmas.Bool.Decides.{nat_tests}
use Rattle.std.specs.Prelude.{nat_eq, nat_le, nat_lt}
use Rattle.cite_names.specs.EtAl.{first_names, shown_names, truncated}
use Rattle.cite_names.specs.NameForms.{ShowsLeading, first_in_form, form_by, only_counts, own_forms, shown_by, written_form, written_names}
use Rattle.cite_names.specs.declared.rules.Cut.{Cut}
use Rattle.value_sources.specs.declared.names.DisambiguatedNameForm.{DisambiguatedNameForm}
use Rattle.value_sources.specs.declared.names.DisambiguatedNameForm.TheVariants.{Count}
use Rattle.style_file.specs.declared.names.NameForm.{NameForm}
use Rattle.cite_names.specs.declared.rules.NameRules.{NameRules}
use Rattle.cite_names.specs.declared.shown.ShownNames.TheVariants.{All, First, FirstAndLast}

-- a written name is more than counted
form-written : (form : NameForm) (initials : Bool) → only_counts (written_form form initials) ≡ false
form-written NameForm.Short initials = refl
form-written NameForm.Long true = refl
form-written NameForm.Long false = refl
form-written NameForm.Count true = refl
form-written NameForm.Count false = refl

counted : (m k : ℕ) → get_or (replicate m Count) k Count ≡ Count
counted zero k = refl
counted (suc m) zero = refl
counted (suc m) (suc k) = counted m k

counted-behind : (form : DisambiguatedNameForm) (n m k : ℕ) → n ≤ k → get_or (replicate n form ++ replicate m Count) k Count ≡ Count
counted-behind form zero m k h = counted m k
counted-behind form (suc n) m zero h = absurd (omega arith)
counted-behind form (suc n) m (suc k) h = counted-behind form n m k (omega arith)

first-there : (form : DisambiguatedNameForm) (n m k : ℕ) → k < n → get_or (replicate n form ++ replicate m Count) k Count ≡ form
first-there form zero m k h = absurd (omega arith)
first-there form (suc n) m zero h = refl
first-there form (suc n) m (suc k) h = first-there form n m k (omega arith)

length-first : (form : DisambiguatedNameForm) (first count : ℕ) → first ≤ count → length (first_in_form form first count) ≡ count
length-first form first count h = omega (
  arith,
  length-append (replicate first form) (replicate (count - first) Count),
  length-replicate first form,
  length-replicate (count - first) Count,
)

-- so many forms are those of written names
first-written : (form : DisambiguatedNameForm) (first count : ℕ) → only_counts form ≡ false → first ≤ count → written_names (first_in_form form first count) ≡ first
first-written form first count w h =
    let forms = first_in_form form first count in
    let long : length forms ≡ count = length-first form first count h in
    let behind = suffix_len_is only_counts forms first Count (omega arith)
    (λ k from inside. ap only_counts (counted-behind form first (count - first) k from))
    (λ some. ap only_counts (first-there form first (count - first) (first - 1) (omega arith)) ∙ w) in
    omega arith

all-shown : (count : ℕ) (use_last : Bool) → truncated count use_last count ≡ All
all-shown count use_last =
    let all : nat_le count count ≡ true = grind (arith, nat_tests) in
    rw all refl

truncated-again : (none last : Bool) (kept count : ℕ) (use_last : Bool) → nat_le count kept ≡ none → (use_last && nat_lt 0 kept && nat_le (kept + 2) count) ≡ last
    → truncated (first_names (cond none All (cond last (FirstAndLast kept) (First kept))) count) use_last count ≡ cond none All (cond last (FirstAndLast kept) (First kept))
truncated-again true last kept count use_last e f = all-shown count use_last
truncated-again false true kept count use_last e f = rw (e, f) refl
truncated-again false false kept count use_last e f = rw (e, f) refl

shown-again : (cut : Option Cut) (use_last : Bool) (count : ℕ) → truncated (first_names (shown_names cut use_last count) count) use_last count ≡ shown_names cut use_last count
shown-again None use_last count = all-shown count use_last
shown-again (Some cut) use_last count = by-min (nat_le cut.min count)
  where
    by-min : (is_cut : Bool) → truncated (first_names (cond is_cut (truncated cut.use_first use_last count) All) count) use_last count ≡ cond is_cut (truncated cut.use_first use_last count) All
    by-min true = truncated-again (nat_le count cut.use_first) (use_last && nat_lt 0 cut.use_first && nat_le (cut.use_first + 2) count) cut.use_first count use_last refl refl
    by-min false = all-shown count use_last

at-most : (none last : Bool) (kept count : ℕ) → nat_le count kept ≡ none → first_names (cond none All (cond last (FirstAndLast kept) (First kept))) count ≤ count
at-most true last kept count e = omega arith
at-most false true kept count e = grind (arith, nat_tests)
at-most false false kept count e = grind (arith, nat_tests)

first-at-most : (cut : Option Cut) (use_last : Bool) (count : ℕ) → first_names (shown_names cut use_last count) count ≤ count
first-at-most None use_last count = omega arith
first-at-most (Some cut) use_last count = by-min (nat_le cut.min count)
  where
    by-min : (is_cut : Bool) → first_names (cond is_cut (truncated cut.use_first use_last count) All) count ≤ count
    by-min true = at-most (nat_le count cut.use_first) (use_last && nat_lt 0 cut.use_first && nat_le (cut.use_first + 2) count) cut.use_first count refl
    by-min false = omega arith

all-told : (use_last : Bool) (count : ℕ) → (use_last && nat_eq count count) ≡ use_last
all-told true count = grind (arith, nat_tests)
all-told false count = refl

pub own-shown : (rules : NameRules) (count : ℕ) → shown_by (own_forms rules count) rules.use_last count count ≡ shown_names rules.cut rules.use_last count
own-shown rules count =
    let first = first_names (shown_names rules.cut rules.use_last count) count in
    let most : first ≤ count = first-at-most rules.cut rules.use_last count in
    let form = form_by rules in
    let written : written_names (own_forms rules count) ≡ first = first-written form first count (form-written rules.form (is_some rules.initialize_with && rules.initialize)) most in
    let kept : min (written_names (own_forms rules count)) count ≡ first = omega arith in
    ap (λ n. truncated n (rules.use_last && nat_eq count count) count) kept
    ∙ (ap (λ b. truncated first b count) (all-told rules.use_last count) ∙ shown-again rules.cut rules.use_last count)

none-behind : (m : ℕ) → ShowsLeading (replicate m Count)
none-behind zero = All-replicate (λ f. only_counts f ≡ true) 0 Count refl
none-behind (suc m) = All-replicate (λ f. only_counts f ≡ true) (suc m) Count refl

first-lead : (form : DisambiguatedNameForm) → only_counts form ≡ false → (n m : ℕ) → ShowsLeading (replicate n form ++ replicate m Count)
first-lead form w zero m = none-behind m
first-lead form w (suc n) m =
    let rest = replicate n form ++ replicate m Count in
    let at : position_or_len only_counts (form ∷ rest) ≡ suc (position_or_len only_counts rest) = rw w (omega arith) in
    rw at (first-lead form w n m)

pub own-lead : (rules : NameRules) (count : ℕ) → ShowsLeading (own_forms rules count)
own-lead rules count =
    let first = first_names (shown_names rules.cut rules.use_last count) count in
    first-lead (form_by rules) (form-written rules.form (is_some rules.initialize_with && rules.initialize)) first (count - first)

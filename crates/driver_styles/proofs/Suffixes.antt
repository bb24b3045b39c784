-- Where a year-suffix text stands: what gathering the names of macros finds.
use Rattle.std.proofs.Common.{◌≡◌, ℕ, zero, suc, ◌+◌, ◌<◌, ◌≤◌, List, [], ◌∷◌, ◌++◌, length, take, get_or, length-append, Bool, true, false, ◌||◌, Option, Some, None, is_some, inl, inr, sym, ap, ◌∙◌, refl, subst, arith}
use Rattle.std.specs.Prelude.{bytes_eq}
use Rattle.std.specs.List.{list_any}
use Rattle.std.specs.Option.{option_map_or}
use Rattle.std.specs.Cmp.Lexicographic.{same_text}
use Rattle.std.proofs.lemmas.Cmp.{nat_list_eq_equiv}
use Rattle.std.proofs.lemmas.List.{take_all, take_more, take-append-le}
use Rattle.std.proofs.lemmas.Bool.{or_left, or_right, or_cases}
use Rattle.value_styles.specs.Element.{Name, Target, value_target, standard_target, macro_target, term_target, Element, text_element, number_element, date_element, names_element, group_element, choose_element, Elements, no_elements, element, Branches, otherwise, branch, Macro}
use Rattle.value_styles.specs.Calls.{Names, target_calls, calls, calls_of_all, calls_of_branches}
use Rattle.value_styles.specs.Ring.{has_name, body_of, body_calls, macro_calls, Calls, HasNoRing}
use Rattle.driver_styles.specs.Gathered.{gather_each}
use Rattle.driver_styles.specs.SuffixText.{suffix_in_target, suffix_in, suffix_in_all, suffix_in_branches, no_call, suffix_in_body, suffix_in_macro, suffix_stands, suffix_called, SuffixesUnfold}
use Rattle.driver_styles.proofs.NameLists.{has_name-either, has_name-same}
use Rattle.driver_styles.proofs.Settled.{meaning, settled}
use Rattle.driver_styles.proofs.Gathering.{is_added, grows, has_name-at}

or-false : (b : Bool) → b ≡ (b || false)
or-false true = refl
or-false false = refl

or-swap : (a x b y : Bool) → ((a || x) || (b || y)) ≡ ((a || b) || (x || y))
or-swap true x b y = refl
or-swap false true true y = refl
or-swap false true false y = refl
or-swap false false b y = refl

any-append : (f : Name → Bool) (xs ys : Names) → list_any f (xs ++ ys) ≡ (list_any f xs || list_any f ys)
any-append f [] ys = refl
any-append f (x ∷ xs) ys =
    let by : (b : Bool) → (b || list_any f (xs ++ ys)) ≡ ((b || list_any f xs) || list_any f ys) = λ b.
    elim b as (λ b. (b || list_any f (xs ++ ys)) ≡ ((b || list_any f xs) || list_any f ys)) [ true ↦ refl | false ↦ any-append f xs ys ] in
    by (f x)

any-true : (f : Name → Bool) (a : Name) (xs : Names) → has_name a xs ≡ true → f a ≡ true → list_any f xs ≡ true
any-true f a [] h e = cc
any-true f a (x ∷ xs) h e =
    elim (or_cases (bytes_eq x a) _ h) [
      | inl q ↦ or_left (f x) _ (ap f (same_text x a (sym q)) ∙ e)
      | inr k ↦ or_right (f x) _ (any-true f a xs k e)
    ]

both-false : (b c : Bool) → b ≡ false → c ≡ false → (b || c) ≡ false
both-false true c e h = cc
both-false false c e h = h

any-false : (f : Name → Bool) (xs : Names) → ((a : Name) → has_name a xs ≡ true → f a ≡ false) → list_any f xs ≡ false
any-false f [] h = refl
any-false f (x ∷ xs) h =
    both-false (f x) _ (h x (or_left (bytes_eq x x) _ (nat_list_eq_equiv.refl x))) (any-false f xs (λ a k. h a (or_right (bytes_eq x a) _ k)))

any-same : (f g : Name → Bool) (xs : Names) → ((a : Name) → has_name a xs ≡ true → f a ≡ g a) → list_any f xs ≡ list_any g xs
any-same f g [] h = refl
any-same f g (x ∷ xs) h =
    let one = h x (or_left (bytes_eq x x) _ (nat_list_eq_equiv.refl x)) in
    let rest = any-same f g xs (λ a k. h a (or_right (bytes_eq x a) _ k)) in
    λ i. one i || rest i

-- the text stands in elements, or in a macro that they call
module _ (call : Name → Bool) where
  in_target : (t : Target) → suffix_in_target call t ≡ (suffix_in_target no_call t || list_any call (target_calls t))
  in_target (value_target t) = refl
  in_target (standard_target v) = or-false _
  in_target (macro_target name) = or-false (call name)
  in_target (term_target t form plural) = refl

  joint : (a b x y : Bool) (xs ys : Names) → a ≡ (x || list_any call xs) → b ≡ (y || list_any call ys) → (a || b) ≡ ((x || y) || list_any call (xs ++ ys))
  joint a b x y xs ys e h =
      (λ i. e i || h i) ∙ or-swap x (list_any call xs) y (list_any call ys) ∙ ap (λ c. (x || y) || c) (sym (any-append call xs ys))

  mutual
    in_element : (e : Element) → suffix_in call e ≡ (suffix_in no_call e || list_any call (calls e))
    in_element (text_element target quotes strip look) = in_target target
    in_element (number_element variable look) = refl
    in_element (date_element variable look) = refl
    in_element (names_element variables substitute options look) = refl
    in_element (group_element children delimiter look) = in_all children
    in_element (choose_element branches) = in_branches branches

    pub in_all : (es : Elements) → suffix_in_all call es ≡ (suffix_in_all no_call es || list_any call (calls_of_all es))
    in_all no_elements = refl
    in_all (element e es) = joint _ _ _ _ (calls e) (calls_of_all es) (in_element e) (in_all es)

    in_branches : (bs : Branches) → suffix_in_branches call bs ≡ (suffix_in_branches no_call bs || list_any call (calls_of_branches bs))
    in_branches (otherwise es) = in_all es
    in_branches (branch conditions rule children bs) = joint _ _ _ _ (calls_of_all children) (calls_of_branches bs) (in_all children) (in_branches bs)

-- what a macro has, where `call` says it of the calls inside
abbrev pub level_of : List Macro → (Name → Bool) → Name → Bool
level_of ms call a = suffix_in_body call (body_of a ms)

by_body : (f g : Name → Bool) (o : Option Elements) → ((b : Name) → has_name b (body_calls o) ≡ true → f b ≡ g b) → suffix_in_body f o ≡ suffix_in_body g o
by_body f g None h = refl
by_body f g (Some es) h = in_all f es ∙ ap (λ b. suffix_in_all no_call es || b) (any-same f g (calls_of_all es) h) ∙ sym (in_all g es)

agree : (ms : List Macro) (f g : Name → Bool) (a : Name) → ((b : Name) → Calls ms a b → f b ≡ g b) → level_of ms f a ≡ level_of ms g a
agree ms f g a h = by_body f g (body_of a ms) h

bare : (ms : List Macro) (f : Name → Bool) (a : Name) → None ≡ body_of a ms → level_of ms f a ≡ false
bare ms f a e = ap (suffix_in_body f) (sym e)

-- the text stands in a macro
abbrev pub stands : List Macro → Name → Bool
stands ms = suffix_in_macro ms (length ms)

abbrev pub Covers : List Macro → Names → Names → Type 0
Covers ms bs ns = (c : Name) → has_name c bs ≡ true → is_some (body_of c ms) ≡ true → has_name c ns ≡ true

-- the names so far: where the text stands in one of them it stands in the layout; what the layout
-- and the first `at` call is there; and in these it doesn't stand without a call
pub record IsGathered (ms : List Macro) (first ns : Names) (at : ℕ) : Type 0 where
  pub within : at ≤ length ns
  pub sound : (b : Name) → has_name b ns ≡ true → stands ms b ≡ true → list_any (stands ms) first ≡ true
  pub start : Covers ms first ns
  pub done : (b : Name) → has_name b (take at ns) ≡ true → Covers ms (macro_calls ms b) ns
  pub clean : (b : Name) → has_name b (take at ns) ≡ true → suffix_in_body no_call (body_of b ms) ≡ false

module _ (ms : List Macro) (no_ring : HasNoRing ms) where
  is_meaning : (n : ℕ) → suffix_in_macro ms n ≡ meaning ms no_ring false (level_of ms) (agree ms) (bare ms) n
  is_meaning zero = refl
  is_meaning (suc n) = ap (level_of ms) (is_meaning n)

  stands_is : (a : Name) → suffix_in_body (stands ms) (body_of a ms) ≡ stands ms a
  stands_is a =
      ap (λ f. level_of ms f a) (is_meaning (length ms)) ∙ settled ms no_ring false (level_of ms) (agree ms) (bare ms) a ∙ sym (ap (λ f. f a) (is_meaning (length ms)))

  -- it stands in a macro that calls one in which it stands
  call_stands : (a b : Name) → Calls ms a b → stands ms b ≡ true → stands ms a ≡ true
  call_stands a b h e =
      let by : (o : Option Elements) → has_name b (body_calls o) ≡ true → suffix_in_body (stands ms) o ≡ true = λ o.
      elim o as (λ o. has_name b (body_calls o) ≡ true → suffix_in_body (stands ms) o ≡ true) [
        | None ↦ λ k. cc
        | Some es ↦ λ k. in_all (stands ms) es ∙ or_right (suffix_in_all no_call es) _ (any-true (stands ms) b (calls_of_all es) k e)
      ] in
      sym (stands_is a) ∙ by (body_of a ms) h

  -- and in one where it stands without a call
  body_stands : (a : Name) → suffix_in_body no_call (body_of a ms) ≡ true → stands ms a ≡ true
  body_stands a h =
      let by : (o : Option Elements) → suffix_in_body no_call o ≡ true → suffix_in_body (stands ms) o ≡ true = λ o.
      elim o as (λ o. suffix_in_body no_call o ≡ true → suffix_in_body (stands ms) o ≡ true) [
        | None ↦ λ k. cc
        | Some es ↦ λ k. in_all (stands ms) es ∙ or_left _ (list_any (stands ms) (calls_of_all es)) k
      ] in
      sym (stands_is a) ∙ by (body_of a ms) h

  pub gathered-start : (first : Names) → IsGathered ms first (gather_each ms first []) 0
  gathered-start first =
      let added = is_added ms first [] in
      record {
        within = omega arith;
        sound = λ b h e. any-true (stands ms) b first (added.only b (subst (λ xs. has_name b xs ≡ true) added.appends h)) e;
        start = λ c e s. added.covers c e s;
        done = λ b h. cc;
        clean = λ b h. cc;
      }

  pub gathered-more : (first ns : Names) (at : ℕ) (next : Name) → IsGathered ms first ns at → at < length ns → next ≡ get_or ns at next
      → suffix_in_body no_call (body_of next ms) ≡ false → IsGathered ms first (gather_each ms (macro_calls ms next) ns) (at + 1)
  gathered-more first ns at next g lt e none =
      let added = is_added ms (macro_calls ms next) ns in
      let there = has_name-at next ns at lt e in
      let t : take (at + 1) (gather_each ms (macro_calls ms next) ns) ≡ take at ns ++ next ∷ [] =
      ap (take (at + 1)) added.appends ∙ take-append-le (at + 1) ns added.extra (omega arith) ∙ take_more ns at next lt ∙ ap (λ x. take at ns ++ x ∷ []) (sym e) in
      record {
        within = omega (arith, ap length added.appends, length-append ns added.extra);
        sound = λ b h s. elim (has_name-either b ns added.extra (subst (λ xs. has_name b xs ≡ true) added.appends h)) [
          | inl k ↦ g.sound b k s
          | inr k ↦ g.sound next there (call_stands next b (added.only b k) s)
        ];
        start = λ c k s. grows ms (macro_calls ms next) ns c (g.start c k s);
        done = λ b h. elim (has_name-either b (take at ns) (next ∷ []) (subst (λ xs. has_name b xs ≡ true) t h)) [
          | inl k ↦ λ c m s. grows ms (macro_calls ms next) ns c (g.done b k c m s)
          | inr k ↦ λ c m s. added.covers c (subst (λ x. Calls ms x c) (sym (has_name-same b next k)) m) s
        ];
        clean = λ b h. elim (has_name-either b (take at ns) (next ∷ []) (subst (λ xs. has_name b xs ≡ true) t h)) [
          | inl k ↦ g.clean b k
          | inr k ↦ subst (λ x. suffix_in_body no_call (body_of x ms) ≡ false) (has_name-same b next k) none
        ];
      }

  -- once all names were looked at, the text stands in none
  none_stands : (first ns : Names) (at : ℕ) → IsGathered ms first ns at → length ns ≤ at → (n : ℕ) (c : Name)
      → (is_some (body_of c ms) ≡ true → has_name c ns ≡ true) → suffix_in_macro ms n c ≡ false
  none_stands first ns at g le zero c h = refl
  none_stands first ns at g le (suc n) c h =
      let all : take at ns ≡ ns = take_all at ns le in
      let by : (o : Option Elements) → o ≡ body_of c ms → suffix_in_body (suffix_in_macro ms n) o ≡ false = λ o.
      elim o as (λ o. o ≡ body_of c ms → suffix_in_body (suffix_in_macro ms n) o ≡ false) [
        | None ↦ λ _. refl
        | Some es ↦ λ e.
            let there = subst (λ xs. has_name c xs ≡ true) (sym all) (h (ap is_some (sym e))) in
            let clean = ap (suffix_in_body no_call) e ∙ g.clean c there in
            let calls_none = any-false (suffix_in_macro ms n) (calls_of_all es) (λ d k.
            none_stands first ns at g le n d (g.done c there d (ap (λ o. has_name d (body_calls o)) (sym e) ∙ k))) in
            in_all (suffix_in_macro ms n) es ∙ both-false _ _ clean calls_none
      ] in
      by (body_of c ms) refl

  -- what is answered: at once, at a name, and at the end
  pub at_once : (es : Elements) → suffix_in_all no_call es ≡ true → true ≡ suffix_stands ms es
  at_once es e = sym (in_all (stands ms) es ∙ or_left _ (list_any (stands ms) (calls_of_all es)) e)

  pub at_name : (es : Elements) (ns : Names) (at : ℕ) (next : Name) → IsGathered ms (calls_of_all es) ns at → at < length ns → next ≡ get_or ns at next
      → suffix_in_body no_call (body_of next ms) ≡ true → true ≡ suffix_stands ms es
  at_name es ns at next g lt e some =
      sym (in_all (stands ms) es ∙ or_right (suffix_in_all no_call es) _ (g.sound next (has_name-at next ns at lt e) (body_stands next some)))

  pub at_end : (es : Elements) (ns : Names) (at : ℕ) → IsGathered ms (calls_of_all es) ns at → length ns ≤ at → suffix_in_all no_call es ≡ false → false ≡ suffix_stands ms es
  at_end es ns at g le none =
      sym (in_all (stands ms) es ∙ both-false _ _ none (any-false (stands ms) (calls_of_all es) (λ c k.
      none_stands (calls_of_all es) ns at g le (length ms) c (g.start c k))))

called_is : (ms : List Macro) (o : Option Elements) → suffix_in_body (stands ms) o ≡ option_map_or (suffix_stands ms) o false
called_is ms None = refl
called_is ms (Some es) = refl

pub suffixes_unfold : SuffixesUnfold
suffixes_unfold ms no_ring es =
    let called : (a : Name) → stands ms a ≡ suffix_called ms a = λ a. sym (stands_is ms no_ring a) ∙ called_is ms (body_of a ms) in
    ap (λ f. suffix_in_all f es) (λ i a. called a i)

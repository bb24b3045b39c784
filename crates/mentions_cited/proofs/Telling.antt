-- Notes tell which cites are the first of their entries.
use Rattle.std.proofs.Common.{◌≡◌, ℕ, ◌+◌, Bool, true, not, ◌||◌, nat_eq, List, [], ◌∷◌, ◌++◌, length, map, take, refl, ap, sym, ◌∙◌, append_assoc, arith}
use Rattle.std.specs.Cmp.{IsEquivalence}
use Rattle.std.specs.List.{enumerate_from, list_any}
use Rattle.std.proofs.lemmas.List.{length_push, map-append, take_at}
use Rattle.driver_entries.specs.Entries.{is_in, place}
use Rattle.driver_entries.proofs.Orders.{same-place}
use Rattle.driver_entries.proofs.Placing.{all_in, both, left, right}
use Rattle.mentions_notes.specs.Notes.{all_notes, cites_entry, notes_behind}
use Rattle.mentions_notes.specs.declared.notes.CiteNotes.{CiteNotes}
use Rattle.mentions_notes.specs.declared.notes.HandedCite.{HandedCite}
use Rattle.mentions_cited.proofs.Firsts.{FirstsTold, alike}

-- the name of its entry
abbrev pub name_of : HandedCite → ℕ
name_of d = d.entry

-- the notes of cites behind others
notes_from : List HandedCite → List HandedCite → List CiteNotes
notes_from before [] = []
notes_from before (c ∷ cs) = notes_behind before c ∷ notes_from (before ++ c ∷ []) cs

spread : (us ys : List HandedCite) (n : ℕ) → length us ≡ n → map (λ p. notes_behind (take p.0 (us ++ ys)) p.1) (enumerate_from n ys) ≡ notes_from us ys
unfolding notes_from
spread us [] n h = refl
spread us (y ∷ ys) n h =
    let all : us ++ y ∷ ys ≡ (us ++ y ∷ []) ++ ys = sym (append_assoc us (y ∷ []) ys) in
    let next : length (us ++ y ∷ []) ≡ n + 1 = omega (arith, h, length_push us y) in
    ap (λ l. notes_behind l y ∷ map (λ p. notes_behind (take p.0 (us ++ y ∷ ys)) p.1) (enumerate_from (n + 1) ys)) (take_at us (y ∷ ys) n h)
    ∙ ap (λ l. notes_behind us y ∷ map (λ p. notes_behind (take p.0 l) p.1) (enumerate_from (n + 1) ys)) all
    ∙ ap (λ l. notes_behind us y ∷ l) (spread (us ++ y ∷ []) ys (n + 1) next)

same-head : {X : Type 0} {a b : X} {xs ys : List X} → (a ∷ xs) ≡ (b ∷ ys) → a ≡ b
same-head h = cc

same-tail : {X : Type 0} {a b : X} {xs ys : List X} → (a ∷ xs) ≡ (b ∷ ys) → xs ≡ ys
same-tail h = cc

any-map : {X Y : Type 0} (p : Y → Bool) (f : X → Y) (xs : List X) → list_any (λ x. p (f x)) xs ≡ list_any p (map f xs)
any-map p f [] = refl
any-map p f (x ∷ xs) = ap (λ b. p (f x) || b) (any-map p f xs)

module _ {E H : Type 0} (eq : E → E → Bool) (laws : IsEquivalence eq) (entry : H → E) (notes : H → CiteNotes) (listed : List E) where
  abbrev name : H → ℕ
  name h = place eq (entry h) listed

  -- entries have one name exactly where they are equal
  named-alike : (h : H) (xs : List H) → is_in eq (entry h) listed ≡ true → all_in eq laws listed (map entry xs) ≡ true → list_any (λ x. nat_eq (name h) (name x)) xs ≡ is_in (alike eq laws entry) h xs
  named-alike h [] there all = refl
  named-alike h (x ∷ xs) there all =
      let one = same-place eq laws listed (entry h) (entry x) listed there (left (is_in eq (entry x) listed) (all_in eq laws listed (map entry xs)) all) in
      let more = named-alike h xs there (right (is_in eq (entry x) listed) (all_in eq laws listed (map entry xs)) all) in
      λ i. one i || more i

  all-push : (xs : List H) (h : H) → all_in eq laws listed (map entry xs) ≡ true → is_in eq (entry h) listed ≡ true → all_in eq laws listed (map entry (xs ++ h ∷ [])) ≡ true
  all-push [] h all there = both (is_in eq (entry h) listed) true there refl
  all-push (x ∷ xs) h all there =
      both (is_in eq (entry x) listed) (all_in eq laws listed (map entry (xs ++ h ∷ []))) (left (is_in eq (entry x) listed) (all_in eq laws listed (map entry xs)) all)
      (all-push xs h (right (is_in eq (entry x) listed) (all_in eq laws listed (map entry xs)) all) there)

  told-from : (before : List HandedCite) (seen : List H) (cites : List HandedCite) (hs : List H) → map name_of before ≡ map name seen → map name_of cites ≡ map name hs
      → map notes hs ≡ notes_from before cites → all_in eq laws listed (map entry seen) ≡ true → all_in eq laws listed (map entry hs) ≡ true
      → FirstsTold eq laws entry (λ h. (notes h).is_first) seen hs
  unfolding notes_from
  told-from before seen cites [] was is known old new = tt
  told-from before seen [] (h ∷ hs) was is known old new = absurd (omega (arith, ap length is))
  told-from before seen (c ∷ cs) (h ∷ hs) was is known old new =
      let there : is_in eq (entry h) listed ≡ true = left (is_in eq (entry h) listed) (all_in eq laws listed (map entry hs)) new in
      let own : c.entry ≡ name h = same-head is in
      let any : list_any (cites_entry c.entry) before ≡ is_in (alike eq laws entry) h seen =
      any-map (nat_eq c.entry) name_of before ∙ (λ i. list_any (nat_eq (own i)) (was i)) ∙ sym (any-map (nat_eq (name h)) name seen) ∙ named-alike h seen there old in (
        ap (λ (n : CiteNotes). n.is_first) (same-head known) ∙ ap not any,
        told-from (before ++ c ∷ []) (seen ++ h ∷ []) cs hs
            (map-append name_of before (c ∷ []) ∙ (λ i. was i ++ own i ∷ []) ∙ sym (map-append name seen (h ∷ [])))
            (same-tail is) (same-tail known) (all-push seen h old there)
            (right (is_in eq (entry h) listed) (all_in eq laws listed (map entry hs)) new),
      )

  -- of all cites
  pub firsts-told : (cites : List HandedCite) (hs : List H) → map name_of cites ≡ map name hs → map notes hs ≡ all_notes cites → all_in eq laws listed (map entry hs) ≡ true
      → FirstsTold eq laws entry (λ h. (notes h).is_first) [] hs
  firsts-told cites hs is known new = told-from [] [] cites hs refl is (known ∙ spread [] cites 0 refl) refl new

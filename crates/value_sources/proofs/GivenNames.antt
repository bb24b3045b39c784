-- The initials of what is left of a given name, within a part or before the next one.
use Rattle.std.proofs.Common.{◌≡◌, ℕ, List, [], ◌∷◌, ◌++◌, take, drop, length, get_or, ◌+◌, ◌<◌, ◌≤◌, Bool, true, false, cond, ap, sym, subst, ◌∙◌, refl}
use Rattle.std.proofs.lemmas.List.{at_drop_more, at_drop_all, length_push}
use Rattle.std.specs.List.{flat_map, slice_split, onto_first}
use Rattle.value_sources.specs.Initials.{parts_name, initials}

-- where no new part begins, what is left of the part that stands is left out
abbrev pub initials_left : Bool → List ℕ → List ℕ
initials_left true cs = initials cs
initials_left false cs = flat_map (take 1) (drop 1 (slice_split parts_name cs))

left_end : (b : Bool) → initials_left b [] ≡ []
left_end true = refl
left_end false = refl

left_between : (b : Bool) (c : ℕ) (cs : List ℕ) → parts_name c ≡ true → initials_left b (c ∷ cs) ≡ initials cs
left_between true c cs e = ap (λ t. flat_map (take 1) (cond t ([] ∷ slice_split parts_name cs) (onto_first c (slice_split parts_name cs)))) e
left_between false c cs e = ap (λ t. flat_map (take 1) (drop 1 (cond t ([] ∷ slice_split parts_name cs) (onto_first c (slice_split parts_name cs))))) e

first_kept : (c : ℕ) (parts : List (List ℕ)) → flat_map (take 1) (onto_first c parts) ≡ c ∷ flat_map (take 1) (drop 1 parts)
first_kept c [] = refl
first_kept c (part ∷ parts) = refl

rest_kept : (c : ℕ) (parts : List (List ℕ)) → flat_map (take 1) (drop 1 (onto_first c parts)) ≡ flat_map (take 1) (drop 1 parts)
rest_kept c [] = refl
rest_kept c (part ∷ parts) = refl

left_first : (c : ℕ) (cs : List ℕ) → parts_name c ≡ false → initials_left true (c ∷ cs) ≡ c ∷ initials_left false cs
left_first c cs e =
    ap (λ t. flat_map (take 1) (cond t ([] ∷ slice_split parts_name cs) (onto_first c (slice_split parts_name cs)))) e ∙ first_kept c (slice_split parts_name cs)

left_inside : (c : ℕ) (cs : List ℕ) → parts_name c ≡ false → initials_left false (c ∷ cs) ≡ initials_left false cs
left_inside c cs e =
    ap (λ t. flat_map (take 1) (drop 1 (cond t ([] ∷ slice_split parts_name cs) (onto_first c (slice_split parts_name cs))))) e ∙ rest_kept c (slice_split parts_name cs)

-- the same, as the characters so far grow by the next one
module _ (cs so_far : List ℕ) (c : ℕ) (turn : (length so_far < length cs) × (c ≡ get_or cs (length so_far) c)) where
  past : drop (length so_far) cs ≡ c ∷ drop (length (so_far ++ c ∷ [])) cs
  past =
      at_drop_more (λ ys. ys) cs (length so_far) c turn.0
      ∙ ap (λ x. x ∷ drop (length so_far + 1) cs) (sym turn.1)
      ∙ ap (λ n. c ∷ drop n cs) (sym (length_push so_far c))

  pub next_between : (b : Bool) → parts_name c ≡ true → initials_left b (drop (length so_far) cs) ≡ initials (drop (length (so_far ++ c ∷ [])) cs)
  next_between b e = ap (initials_left b) past ∙ left_between b c (drop (length (so_far ++ c ∷ [])) cs) e

  pub next_first : (b : Bool) → b ≡ true → parts_name c ≡ false → initials_left b (drop (length so_far) cs) ≡ c ∷ initials_left false (drop (length (so_far ++ c ∷ [])) cs)
  next_first b t e = ap (λ b. initials_left b (drop (length so_far) cs)) t ∙ ap (initials_left true) past ∙ left_first c (drop (length (so_far ++ c ∷ [])) cs) e

  pub next_inside : (b : Bool) → b ≡ false → parts_name c ≡ false → initials_left b (drop (length so_far) cs) ≡ initials_left b (drop (length (so_far ++ c ∷ [])) cs)
  next_inside b f e =
      let inside : initials_left false (drop (length so_far) cs) ≡ initials_left false (drop (length (so_far ++ c ∷ [])) cs) = ap (initials_left false) past ∙ left_inside c (drop (length (so_far ++ c ∷ [])) cs) e in
      subst (λ b. initials_left b (drop (length so_far) cs) ≡ initials_left b (drop (length (so_far ++ c ∷ [])) cs)) (sym f) inside

-- and once all are passed
pub none_left : (cs so_far : List ℕ) (b : Bool) → length cs ≤ length so_far → initials_left b (drop (length so_far) cs) ≡ []
none_left cs so_far b h = ap (initials_left b) (at_drop_all (λ ys. ys) cs (length so_far) h) ∙ left_end b

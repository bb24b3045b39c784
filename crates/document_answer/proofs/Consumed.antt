-- A reader is read to its end.
use Rattle.std.proofs.Common.{◌≡◌, ℕ, ◌<◌, List, [], ◌++◌, Option, Some, None, length, take, IfSome, refl, sym, ap, ◌∙◌, subst, append_assoc, append-nil}
use Rattle.std.specs.Io.KnownBytes.{Consumes, IsAtEnd}

-- the reader, which had o left at first, has n left, and bs came, through a buffer that keeps its length
pub record Reading (o n : Option (List ℕ)) (bs : List ℕ) (first room : ℕ) : Type 0 where
  pub came : Consumes o n bs
  pub same_room : room ≡ first

pub Reading-start : (o : Option (List ℕ)) (room : ℕ) → Reading o o [] room room
Reading-start None room = record { came = tt; same_room = refl }
Reading-start (Some xs) room = record { came = refl; same_room = refl }

came_more : (o m n : Option (List ℕ)) (bs cs : List ℕ) → Consumes o m bs → Consumes m n cs → Consumes o n (bs ++ cs)
came_more None m n bs cs p q = tt
came_more (Some xs) None n bs cs p q = absurd p
came_more (Some xs) (Some ys) None bs cs p q = absurd q
came_more (Some xs) (Some ys) (Some zs) bs cs p q = p ∙ ap (λ t. bs ++ t) q ∙ sym (append_assoc bs cs zs)

pub Reading-more : (o m n : Option (List ℕ)) (bs cs all : List ℕ) (first room next : ℕ) → Reading o m bs first room → Consumes m n cs → all ≡ bs ++ cs
    → next ≡ room → Reading o n all first next
Reading-more o m n bs cs all first room next r c e l =
    record { came = subst (Consumes o n) (sym e) (came_more o m n bs cs r.came c); same_room = l ∙ r.same_room }

all_came : (o m n : Option (List ℕ)) (bs : List ℕ) → Consumes o m bs → Consumes m n [] → IsAtEnd n → IfSome o (λ left. bs ≡ left)
all_came None m n bs p q h = tt
all_came (Some xs) None n bs p q h = absurd p
all_came (Some xs) (Some ys) None bs p q h = absurd q
all_came (Some xs) (Some ys) (Some zs) bs p q h = sym (p ∙ ap (λ t. bs ++ t) (q ∙ h) ∙ append-nil bs)

pub Reading-end : (o m n : Option (List ℕ)) (bs buffer : List ℕ) (count first room : ℕ) → Reading o m bs first room → count ≡ 0 → length buffer ≡ room
    → Consumes m n (take count buffer) × (count ≡ 0 → 0 < length buffer → IsAtEnd n) → 0 < first → IfSome o (λ left. bs ≡ left)
Reading-end o m n bs buffer count first room r z l c h =
    all_came o m n bs r.came (subst (λ k. Consumes m n (take k buffer)) z c.0) (c.1 z (subst (λ k. 0 < k) (sym (l ∙ r.same_room)) h))

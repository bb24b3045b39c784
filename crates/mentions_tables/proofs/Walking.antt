-- Walks over mentions, one more.
use Rattle.std.proofs.Common.{◌≡◌, ℕ, ◌+◌, ◌<◌, List, [], ◌∷◌, ◌++◌, length, map, take, get_or, ap, sym, ◌∙◌, append-nil, append_assoc}
use Rattle.std.specs.Prelude.{flat_map}
use Rattle.std.proofs.lemmas.List.{map-append}
use Rattle.std.proofs.lemmas.Grind.{flat_map-append}
use Rattle.mentions_groups.specs.declared.state.MentionState.{MentionState}
use Rattle.mentions_tables.specs.Asked.{MentionsWriter, asked_for}
use Rattle.mentions_tables.proofs.Asking.{asked-more}
use Rattle.mentions_tables.proofs.Changing.{take-next}

module _ {X : Type 0} (xs : List X) (k : ℕ) (x : X) (within : k < length xs) (here : x ≡ get_or xs k x) where
  pub map-next : {Y : Type 0} (f : X → Y) → map f (take (k + 1) xs) ≡ map f (take k xs) ++ f x ∷ []
  map-next f = ap (map f) (take-next k xs x within here) ∙ map-append f (take k xs) (x ∷ [])

  pub pushed-next : {Y : Type 0} (f : X → Y) (found now : List Y) (y : Y) → found ≡ map f (take k xs) → now ≡ found ++ y ∷ [] → y ≡ f x → now ≡ map f (take (k + 1) xs)
  pushed-next f found now y so_far pushed is = pushed ∙ (λ i. so_far i ++ is i ∷ []) ∙ sym (map-next f)

  module _ {M K N : Type 0} (before now after : MentionsWriter M K N) where
    -- it is asked for one thing of each
    pub asked-next : (f : X → M × MentionState) → now ≡ asked_for (map f (take k xs)) before → after ≡ asked_for (f x ∷ []) now → after ≡ asked_for (map f (take (k + 1) xs)) before
    asked-next f so_far asked = asked-more before now after (map f (take k xs)) (f x ∷ []) so_far asked ∙ ap (λ ts. asked_for ts before) (sym (map-next f))

    -- for some things of each
    pub asked-some : (f : X → List (M × MentionState)) → now ≡ asked_for (flat_map f (take k xs)) before → after ≡ asked_for (f x) now → after ≡ asked_for (flat_map f (take (k + 1) xs)) before
    asked-some f so_far asked =
        asked-more before now after (flat_map f (take k xs)) (f x) so_far asked
        ∙ ap (λ ts. asked_for ts before)
        (sym (ap (flat_map f) (take-next k xs x within here) ∙ flat_map-append f (take k xs) (x ∷ []) ∙ ap (λ ts. flat_map f (take k xs) ++ ts) (append-nil (f x))))

-- all are made into others
pub made-more : {X Y : Type 0} (f : X → Y) (made now all : List Y) (rest left : List X) (x : X) → left ≡ x ∷ rest → made ++ map f left ≡ all → now ≡ made ++ f x ∷ [] → now ++ map f rest ≡ all
made-more f made now all rest left x split so_far push =
    ap (λ l. l ++ map f rest) push ∙ append_assoc made (f x ∷ []) (map f rest) ∙ sym (ap (λ l. made ++ map f l) split) ∙ so_far

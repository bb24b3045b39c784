-- How high the stacks are before and behind parts in a formatting.
use Rattle.std.proofs.Common.{◌≡◌, ℕ, ◌≤◌, ◌-◌, ◌∷◌, ◌++◌, [], Bool, true, false, cond, List, length, None, Some, refl, ap, sym, subst, arith, length-append}
use Rattle.std.proofs.lemmas.Bool.{ltb-false}
use Rattle.std.proofs.lemmas.List.{length-take-le, length-set}
use Rattle.std.specs.Prelude.{slice_set, nat_lt}
use Rattle.std.specs.Option.{option_map_or}
use Rattle.value_trees.specs.Child.{Child}
use Rattle.value_sources.specs.declared.formatting.Formatting.{Formatting}
use Rattle.value_sources.specs.declared.formatting.StyleFormatting.{StyleFormatting}
use Rattle.layout_context.specs.OpenFrames.{Frames, on_top, top}
use Rattle.layout_context.specs.WritingState.{State, is_saved, saved, formatted, unformatted, cut_formats, asks_nothing}

pub either_has : (P : State → Type 0) (b : Bool) (x y : State) → P x → P y → P (cond b x y)
either_has P true x y p q = p
either_has P false x y p q = q

pub length-on_top : (f : List Child → List Child) (frames : Frames) → length (on_top f frames) ≡ length frames
length-on_top f frames =
    elim (top frames) as (λ t. length (option_map_or (λ frame. slice_set frames (length frames - 1) (f frame)) t frames) ≡ length frames)
    [ None ↦ refl | Some frame ↦ length-set frames (length frames - 1) (f frame) ]

-- saving keeps the formats, and how many frames there are
pub formats-saved : (a : State) → (saved a).formats ≡ a.formats
unfolding saved
formats-saved a = either_has (λ x. x.formats ≡ a.formats) (is_saved a) _ _ refl refl

pub frames-saved : (a : State) → length (saved a).frames ≡ length a.frames
unfolding saved
frames-saved a = either_has (λ x. length x.frames ≡ length a.frames) (is_saved a) _ _ refl (length-on_top _ a.frames)

-- a format adds to the formats, if anything, and keeps how many frames there are
more_formats : (a : State) (f : Formatting) → length a.formats ≤ length ((saved a).formats ++ f ∷ [])
more_formats a f = let e : length (saved a).formats ≡ length a.formats = ap length (formats-saved a) in omega (arith, length-append (saved a).formats (f ∷ []))

pub formats-formatted : (f : StyleFormatting) (a : State) → length a.formats ≤ length (formatted f a).formats
unfolding formatted
formats-formatted f a = either_has (λ x. length a.formats ≤ length x.formats) (asks_nothing f) _ _ (omega arith) (more_formats a _)

pub frames-formatted : (f : StyleFormatting) (a : State) → length (formatted f a).frames ≡ length a.frames
unfolding formatted
frames-formatted f a = either_has (λ x. length x.frames ≡ length a.frames) (asks_nothing f) _ _ refl (frames-saved a)

-- cut back to a height that the formats have, they have it
cut_at : (h : ℕ) (a : State) → h ≤ length a.formats → (t : Bool) → nat_lt h (length a.formats) ≡ t
    → length (cond t (cut_formats h (saved a)) a).formats ≡ h
cut_at h a le true e = length-take-le h (saved a).formats (subst (λ l. h ≤ length l) (sym (formats-saved a)) le)
cut_at h a le false e = let most : length a.formats ≤ h = ltb-false h (length a.formats) e in omega arith

pub formats-unformatted : (h : ℕ) (a : State) → h ≤ length a.formats → length (unformatted h a).formats ≡ h
unfolding unformatted
formats-unformatted h a le = cut_at h a le (nat_lt h (length a.formats)) refl

pub frames-unformatted : (h : ℕ) (a : State) → length (unformatted h a).frames ≡ length a.frames
unfolding unformatted
frames-unformatted h a = either_has (λ x. length x.frames ≡ length a.frames) (nat_lt h (length a.formats)) _ _ (frames-saved a) refl

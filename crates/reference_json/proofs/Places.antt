-- Steps that follow one another.
use Rattle.std.proofs.Common.{◌≡◌, List, [], ◌∷◌, ◌++◌, Option, Some, None, refl, subst, sym}
use Rattle.std.specs.Prelude.{option_and_then}
use Rattle.serde_json.specs.Data.{Data}
use Rattle.reference_json.specs.declared.fault.Step.{Step}
use Rattle.reference_json.specs.Faults.{into, part_at}

only : (o : Option Data) → option_and_then (part_at []) o ≡ o
only None = refl
only (Some x) = refl

along : (f g h : Data → Option Data) (o : Option Data) → ((x : Data) → f x ≡ option_and_then g (h x)) → option_and_then f o ≡ option_and_then g (option_and_then h o)
along f g h None same = refl
along f g h (Some x) same = same x

last_step : (way : List Step) (s : Step) (d : Data) → part_at (way ++ s ∷ []) d ≡ option_and_then (into s) (part_at way d)
last_step [] s d = only (into s d)
last_step (t ∷ way) s d = along (part_at (way ++ s ∷ [])) (into s) (part_at way) (into t d) (λ x. last_step way s x)

-- the last step leads on from where the others lead
pub one_step_on : (way longer : List Step) (s : Step) (d : Data) → longer ≡ way ++ s ∷ [] → part_at longer d ≡ option_and_then (into s) (part_at way d)
one_step_on way longer s d e = subst (λ w. part_at w d ≡ option_and_then (into s) (part_at way d)) (sym e) (last_step way s d)

-- What is found at a place.
use Rattle.std.proofs.Common.{◌≡◌, List, Option, Some, refl, subst, sym}
use Rattle.serde_json.specs.Data.{Data, null, boolean, number, string, array, object}
use Rattle.reference_json.specs.declared.fault.Found.{Found}
use Rattle.reference_json.specs.Faults.{kind, IsFound, IsFoundThere}

of_kind : (d : Data) → IsFound (kind d) d
of_kind null = refl
of_kind (boolean b) = refl
of_kind (number n) = refl
of_kind (string s) = refl
of_kind (array ds) = refl
of_kind (object ms) = refl

-- a value is what it is found to be
pub kind_found : (f : Found) (d : Data) → f ≡ kind d → IsFound f d
kind_found f d e = subst (λ g. IsFound g d) (sym e) (of_kind d)

-- what is found of a part is found where the part is
pub found_there : (f : Found) (there : Option Data) (d : Data) → there ≡ Some d → IsFound f d → IsFoundThere f there
found_there f there d e h = subst (IsFoundThere f) (sym e) h

pub found_by_same : (f : Found) (one other : Option Data) → one ≡ other → IsFoundThere f other → IsFoundThere f one
found_by_same f one other e h = subst (IsFoundThere f) (sym e) h

-- A style beside what was prepared of it, if anything was.
use Rattle.std.specs.Prelude.{◌≡◌, Option}
use Rattle.std.specs.Coded.{Coded-set}
use Rattle.std.specs.Option.{ForSome}
use Rattle.value_styles.specs.contracts.style.IndependentStyle as style_
use Rattle.value_styles.specs.declared.style.IndependentStyle.{IndependentStyle}
use Rattle.driver_styles.specs.declared.prepared.PreparedStyle.{PreparedStyle}
use Rattle.driver_styles.specs.PreparedView.{made_of}

-- the prepared style, where there is one, was made of this style
abbrev pub IsMadeOf : Option PreparedStyle → IndependentStyle → Type 0
IsMadeOf prepared style = ForSome prepared (λ s. made_of s ≡ style)

-- for ghost fields: there are no two proofs of that
pub IsMadeOf-prop : (prepared : Option PreparedStyle) (style : IndependentStyle)
    → IsProp (IsMadeOf prepared style)
IsMadeOf-prop prepared style x y =
    λ i s e. Coded-set style_.the_row.coded (made_of s) style (x s e) (y s e) i

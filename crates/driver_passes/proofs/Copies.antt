-- Copies of the code of a locale, where there may be one, are seen as it is.
use Rattle.std.proofs.Common.{◌≡◌, refl, ap, Option, Some, None, option_map, rules}
use Rattle.std.specs.contracts.prelude.OptionClone.TheImpl as option_clone
use Rattle.value_styles.specs.StyleView.{code_view}
use Rattle.value_styles.specs.declared.locale.LocaleCode.{LocaleCode}
use Rattle.value_styles.specs.contracts.locale.LocaleCode.{the_row}
use Rattle.value_styles.specs.contracts.locale.LocaleCodeClone.TheImpl as code_clone
use mir.Syntax.{Dict}

code_copied : (a b : LocaleCode) → (code_clone.ghosts).is_clone a b → code_view b ≡ code_view a
code_copied a b h = search rules

pub some_code_copied : (d : Dict) (a b : Option LocaleCode) → (option_clone.ghosts the_row code_clone.ghosts d d).is_clone a b → option_map code_view b ≡ option_map code_view a
some_code_copied d None None h = refl
some_code_copied d (Some x) (Some y) h = ap Some (code_copied x y h)
some_code_copied d _ _ h = absurd h

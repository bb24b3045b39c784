-- What is done to the text before.
use Rattle.std.specs.Prelude.{ℕ, List}
use Rattle.std.specs.Str.{trim_end}
use Rattle.layout_context.specs.declared.tree_end.Edit.{Edit}
use Rattle.layout_context.specs.declared.tree_end.Edit.TheVariants as v
use Rattle.layout_context.specs.Steps.{without_ending}

abbrev pub edited : Edit → List ℕ → List ℕ
edited v.TrimEnd t = trim_end t
edited (v.TakeEnding e) t = without_ending e.now t

-- The laws of joining adjacent texts.
use Rattle.value_trees.specs.Child.{kids_of}
use Rattle.value_trees.proofs.SimplifyLaws.{simplified-plain, simplified-simplified, kids_simple-Apart}
use Rattle.value_trees.proofs.simplify.simplify_laws.Goals as goal

pub returns-clause-keeps_plain_text : goal.returns-clause-keeps_plain_text
returns-clause-keeps_plain_text c = simplified-plain

pub returns-clause-twice_is_once : goal.returns-clause-twice_is_once
returns-clause-twice_is_once c = simplified-simplified

pub returns-clause-leaves_none_to_join : goal.returns-clause-leaves_none_to_join
returns-clause-leaves_none_to_join c = λ cs. kids_simple-Apart (kids_of cs)

use Rattle.std.proofs.lemmas.Str.Pattern.{ends_text}
use Rattle.layout_context.proofs.TextSteps.{split_at_ending}
use Rattle.layout_context.proofs.text.ends_with.Goals as goal

pub returns : goal.returns
returns c = record {
  value = ends_text c.ends_with.result c.args.ending.now c.args.text.now c.ends_with.ensures.cases;
  cut = split_at_ending c.ends_with.result c.args.ending.now c.args.text.now c.ends_with.ensures.cases;
}

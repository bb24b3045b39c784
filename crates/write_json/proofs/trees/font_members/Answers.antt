-- The text of each slant and weight is written out.
use Rattle.json.specs.Print.{escape_byte}
use Rattle.write_json.specs.Pieces.{font_text}
use Rattle.write_json.proofs.trees.font_members.Goals as goal

pub returns-in-Normal-Normal : goal.returns-in-Normal-Normal
unfolding font_text escape_byte
returns-in-Normal-Normal c = rw (c.in-Normal-Normal.is-0, c.in-Normal-Normal.is-1)

pub returns-in-Normal-Bold : goal.returns-in-Normal-Bold
unfolding font_text escape_byte
returns-in-Normal-Bold c = rw (c.in-Normal-Bold.is-0, c.in-Normal-Bold.is-1)

pub returns-in-Italic-Normal : goal.returns-in-Italic-Normal
unfolding font_text escape_byte
returns-in-Italic-Normal c = rw (c.in-Italic-Normal.is-0, c.in-Italic-Normal.is-1)

pub returns-in-Italic-Bold : goal.returns-in-Italic-Bold
unfolding font_text escape_byte
returns-in-Italic-Bold c = rw (c.in-Italic-Bold.is-0, c.in-Italic-Bold.is-1)

use Rattle.std.proofs.Common.{arith}
use Rattle.style_xml.proofs.reader.refused_byte.Goals as goal

pub returns : goal.returns
returns c = (
  c.args.offset,
  record {
    within = omega (arith, c.requires);
    line = c.place_in.ensures.line;
    column = c.place_in.ensures.column;
  },
)

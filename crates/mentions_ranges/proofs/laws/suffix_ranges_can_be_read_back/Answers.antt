use Rattle.mentions_ranges.proofs.ReadSuffixes.{suffixes-read-back}
use Rattle.mentions_ranges.proofs.laws.suffix_ranges_can_be_read_back.Goals as goal

pub returns : goal.returns
returns c = suffixes-read-back

-- Years of blocks and suffixes of years, together.
use Rattle.std.specs.Prelude.{Bool, if◌then◌else◌}
use Rattle.mentions_ranges.specs.declared.collapsed.CollapsedCite.{CollapsedCite}
use Rattle.mentions_ranges.specs.declared.collapsed.Delimiter.{Delimiter}
use Rattle.mentions_blocks.specs.declared.collapsed.CollapsedYear.{CollapsedYear}
use Rattle.mentions_blocks.specs.declared.collapsed.YearCut.{YearCut}
use Rattle.mentions_blocks.specs.declared.collapsed.YearDelimiter.{YearDelimiter}
use Rattle.mentions_blocks.specs.declared.years.BlockDelimiter.{BlockDelimiter}
use Rattle.mentions_blocks.specs.declared.years.BlockYear.{BlockYear}

abbrev pub cut_of : Bool → Bool → YearCut
cut_of by_block by_stretch = if by_stretch then YearCut.Suffix
    else if by_block then YearCut.WithoutNames
    else YearCut.Whole

abbrev pub delimiter_by_block : BlockDelimiter → YearDelimiter
delimiter_by_block BlockDelimiter.Layout = YearDelimiter.Layout
delimiter_by_block BlockDelimiter.Group = YearDelimiter.Group
delimiter_by_block BlockDelimiter.AfterCollapse = YearDelimiter.AfterCollapse

abbrev pub delimiter_of : BlockDelimiter → Delimiter → YearDelimiter
delimiter_of b Delimiter.Dash = YearDelimiter.Dash
delimiter_of b Delimiter.YearSuffix = YearDelimiter.YearSuffix
delimiter_of b Delimiter.AfterCollapse = YearDelimiter.AfterCollapse
delimiter_of b Delimiter.Usual = delimiter_by_block b

-- what a stretch of suffixes says goes first
abbrev pub collapsed : BlockYear → CollapsedCite → CollapsedYear
collapsed year stretch = record {
  is_inner = stretch.is_inner;
  cut = cut_of year.is_cut stretch.is_cut;
  delimiter = delimiter_of year.delimiter stretch.delimiter;
}

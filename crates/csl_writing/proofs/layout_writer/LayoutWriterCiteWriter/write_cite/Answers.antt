use Rattle.std.proofs.Common.{subst, sym}
use Rattle.value_styles.specs.Ring.{HasNoRing}
use Rattle.driver_lookup.specs.Lookup.{Source}
use Rattle.csl_writing.proofs.layout_writer.LayoutWriterCiteWriter.write_cite.Goals as goal

pub cite_of-requires : goal.cite_of-requires
cite_of-requires g c = subst (λ (s : Source). HasNoRing s.style.macros) (sym c.of_locales-context.ensures) c.args.task.now.no_ring

use Rattle.std.proofs.Common.{◌≡◌, take, map}
use Rattle.driver_styles.proofs.terms.TermTables.new.Given as goal

abbrev pub invariant-loop-locale : goal.invariant-loop-locale
invariant-loop-locale l = map (λ t. t.locale.now) l.tables.items ≡ take l.locale-index l.locales

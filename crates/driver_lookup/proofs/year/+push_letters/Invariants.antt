use Rattle.driver_lookup.proofs.year.+push_letters.Given as goal

abbrev pub decreases-push_letters : goal.decreases-push_letters
decreases-push_letters l = l.suffix

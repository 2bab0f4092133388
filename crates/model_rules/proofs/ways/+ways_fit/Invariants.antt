use Rattle.model_rules.proofs.ways.+ways_fit.Given as goal

abbrev pub decreases-ways_fit : goal.decreases-ways_fit
decreases-ways_fit l = l.steps

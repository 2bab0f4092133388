use Rattle.formula.proofs.formula.Formula.+find.Given as goal

abbrev pub decreases-find : goal.decreases-find
decreases-find g l = l.e

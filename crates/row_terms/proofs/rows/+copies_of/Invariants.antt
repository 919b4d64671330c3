use Rattle.row_terms.proofs.rows.+copies_of.Given as goal

-- proposed from what the function passes where it calls itself
abbrev pub decreases-copies_of : goal.decreases-copies_of
decreases-copies_of l = l.count

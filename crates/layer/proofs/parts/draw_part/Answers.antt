use Rattle.layer.proofs.parts.draw_part.Goals as goal

pub returns-clause-laid : goal.returns-clause-laid
returns-clause-laid g c z = (c.ask.new.codes, c.ask.ensures.shown c.in_ok-ask.was, c.lay.ensures)

pub returns-clause-counts : goal.returns-clause-counts
returns-clause-counts g c = (1, c.ask.ensures.counts)

pub returns-in_err-ask-clause-counts : goal.returns-in_err-ask-clause-counts
returns-in_err-ask-clause-counts g c = (1, c.ask.ensures.counts)

use Rattle.tcap_laws.proofs.Isolation.SeenLives.{only_clock, only_born, only_kept, only_life, unseen, unseen_marks, seen_marks}
use Rattle.tcap_laws.proofs.alone.only_tells_life.Goals as goal

pub returns-clause-clock : goal.returns-clause-clock
returns-clause-clock c = only_clock

pub returns-clause-born : goal.returns-clause-born
returns-clause-born c = only_born

pub returns-clause-life : goal.returns-clause-life
returns-clause-life c = only_life

pub returns-clause-kept : goal.returns-clause-kept
returns-clause-kept c = only_kept

pub returns-clause-unseen : goal.returns-clause-unseen
returns-clause-unseen c = λ dialogue id pair past e. unseen_marks dialogue pair past (unseen dialogue pair past e) id

pub returns-clause-seen : goal.returns-clause-seen
returns-clause-seen c = seen_marks

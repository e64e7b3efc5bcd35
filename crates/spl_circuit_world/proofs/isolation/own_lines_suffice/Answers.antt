-- By two worlds that stay alike at the nodes concerned.
use Rattle.spl_circuit_world.proofs.{Owns.{own-same, elsewhere-empty, answer-whole}, Ups.whole-up, Moments.{moment-whole, cells-whole}}
use Rattle.spl_circuit_world.proofs.isolation.own_lines_suffice.Goals as goal

pub returns : goal.returns
returns c = record { same = own-same; elsewhere = elsewhere-empty; answer = answer-whole; up = whole-up; moments = moment-whole; cells = cells-whole }

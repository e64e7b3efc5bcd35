use Rattle.spl_app.proofs.agree.circuits_are_decided.Goals as goal

pub returns : goal.returns
returns c = λ o begins. record {
  answers = λ d rs ss fit fits same. c.own_lines_decide.ensures.equal o d rs ss begins fit fits same;
  dropped = λ d before after r other none. c.own_lines_decide.ensures.dropped o d before after r other none;
  same = λ d rs fit. c.own_lines_suffice.ensures.same o d rs begins fit;
  elsewhere = λ d rs n fit away. c.own_lines_suffice.ensures.elsewhere o d rs n begins fit away;
}

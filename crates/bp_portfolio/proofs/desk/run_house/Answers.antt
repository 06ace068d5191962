use Rattle.bp_portfolio.proofs.desk.run_house.Goals as goal

pub returns : goal.returns
returns g c = record {
  run = c.in_ok-ran.ensures.run;
  whole = c.in_ok-ran.ensures.whole;
  cut = c.in_ok-ran.ensures.cut;
  few_vectors = c.in_ok-ran.ensures.vectors;
  room = c.in_ok-ran.ensures.room;
}

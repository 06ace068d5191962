use Rattle.bp_hotelfile.proofs.SeasonLemmas.{season_of-tells}
use Rattle.bp_hotelfile.proofs.law.files_give_seasons.Goals as goal

pub returns : goal.returns
returns c = season_of-tells

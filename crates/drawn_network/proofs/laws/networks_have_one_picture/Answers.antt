use Rattle.drawn_network.proofs.OnePicture.{one_picture}
use Rattle.drawn_network.proofs.laws.networks_have_one_picture.Goals as goal

pub returns : goal.returns
returns c = one_picture

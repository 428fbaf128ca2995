use Rattle.drawn_network.proofs.QuoteFacts.{html_opens, labels_end, names_apart, names_end}
use Rattle.drawn_network.proofs.laws.names_keep_their_quotes.Goals as goal

pub returns : goal.returns
returns c = record { names = names_end; labels = labels_end; apart = names_apart; legend = html_opens }

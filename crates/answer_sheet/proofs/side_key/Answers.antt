-- Each side is its own case of the definition, and its key is a constant.
-- Assumes nothing.
use mathlib.Core.Path.{refl}
use Rattle.answer_sheet.specs.Keys.{side_key, bid_key, ask_key}
use Rattle.answer_sheet.proofs.side_key.Goals as goal

pub returns-in-Buy : goal.returns-in-Buy
unfolding side_key bid_key ask_key
returns-in-Buy c = rw c.in-Buy.is refl

pub returns-in-Sell : goal.returns-in-Sell
unfolding side_key bid_key ask_key
returns-in-Sell c = rw c.in-Sell.is refl

-- The nodes by rank have the ids of the order.
use Rattle.rv_book.proofs.Common.{rules, get_or_default}
use Rattle.rv_book.proofs.RankOrders.{order_is}
use Rattle.rv_book.proofs.arrangement.Arrangement.order.Goals as goal

pub ids_at-requires : goal.ids_at-requires
ids_at-requires c k d l = search (get_or_default, rules)

pub returns : goal.returns
returns c = search (order_is, rules)

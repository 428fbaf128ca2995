use Rattle.net_model.specs.ConfigViews.{config_view}
use Rattle.failed_links.proofs.DownFacts.{IsConfiguration-shut}
use Rattle.failed_links.proofs.copies.shut_router.Goals as goal

pub invariant_of-result : goal.invariant_of-result
invariant_of-result c =
    rw (
      c.in_ok-copy_name.ensures,
      c.in_ok-shut_interfaces.ensures,
      c.as_slice.ensures,
      c.in_ok-copy_name-2.ensures,
      c.in_ok-copy_name-3.ensures,
      c.from_vec.ensures,
      c.in_ok-from_slice.ensures.items,
      c.as_slice-2.ensures,
      c.from_vec-2.ensures,
      c.in_ok-from_slice-2.ensures.items,
      c.as_slice-3.ensures,
    )
    (IsConfiguration-shut c.args.link (config_view c.config.inside) c.config.invariant)

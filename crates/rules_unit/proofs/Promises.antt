-- Everything that is promised of the rules of the unit is proved.
use Rattle.rules_unit.specs.Promises.{Promises}
use Rattle.rules_unit.proofs.Orders.{decodes_order, decodes_orders_only, takes_apart}
use Rattle.rules_unit.proofs.Coherence.{coherent}
use Rattle.rules_unit.proofs.Units.{makes, lives, checks, answers, obeys}
use Rattle.rules_unit.proofs.Forgetting.{forgets, learned}
use Rattle.rules_unit.proofs.Edges.{edges_hold}

pub promises : Promises
promises =
    record {
      coherent = coherent;
      makes = makes;
      lives = lives;
      checks = checks;
      answers = answers;
      obeys = obeys;
      forgets = forgets;
      learns = learned;
      decodes_order = decodes_order;
      decodes_orders_only = decodes_orders_only;
      takes_apart = takes_apart;
      edges = edges_hold;
    }

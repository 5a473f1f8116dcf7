-- prepare builds the tree of a text that is loaded.
-- The check finds none of these goals alone, nor with the laws named at the function.
use Rattle.prepare.proofs.Trees.{ready, prepared}
use Rattle.prepare.proofs.prepare.Goals as goal

pub build-requires : goal.build-requires
build-requires c = ready {t = record { loaded = c.in_ok-loaded.loaded; table = c.load.new.table }} (rw c.in_ok-loaded.was at c.load.ensures) c.requires

pub returns : goal.returns
returns c = prepared {t = record { loaded = c.in_ok-loaded.loaded; table = c.load.new.table }} (rw c.in_ok-loaded.was at c.load.ensures) c.build.ensures

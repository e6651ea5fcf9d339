-- Each set is the hart's under its name.
use Rattle.rv_hart.proofs.next.Next.set.Goals as goal

pub returns-in-Loads : goal.returns-in-Loads
returns-in-Loads c = rw c.in-Loads.is c.requires.sets.loads

pub returns-in-Stores : goal.returns-in-Stores
returns-in-Stores c = rw c.in-Stores.is c.requires.sets.stores

pub returns-in-Acquires : goal.returns-in-Acquires
returns-in-Acquires c = rw c.in-Acquires.is c.requires.sets.acquires

pub returns-in-Rcsc : goal.returns-in-Rcsc
returns-in-Rcsc c = rw c.in-Rcsc.is c.requires.sets.rcsc

pub returns-in-FencedForLoad : goal.returns-in-FencedForLoad
returns-in-FencedForLoad c = rw c.in-FencedForLoad.is c.requires.sets.fenced_for_load

pub returns-in-FencedForStore : goal.returns-in-FencedForStore
returns-in-FencedForStore c = rw c.in-FencedForStore.is c.requires.sets.fenced_for_store

pub returns-in-Controlled : goal.returns-in-Controlled
returns-in-Controlled c = rw c.in-Controlled.is c.requires.sets.controlled

pub returns-in-Addressed : goal.returns-in-Addressed
returns-in-Addressed c = rw c.in-Addressed.is c.requires.sets.addressed

pub mod BackTurns

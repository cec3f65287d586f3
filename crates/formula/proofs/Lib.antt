-- The laws of the meaning of formulas: tests over lists, membership, the elements that pass a test, copies, order
-- inside a clause, statuses, formulas, nodes, clashes, the tree of assignments, graded literals and quantifiers.
pub mod SomeLaws
pub mod Membership
pub mod ThoseLaws
pub mod CopyLaws
pub mod OrderLaws
pub mod StatusLaws
pub mod FormulaLaws
pub mod NodesLaws
pub mod ClashLaws
pub mod TreeLaws
pub mod GradedLaws

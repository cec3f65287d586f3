-- The program's results, one for each line of the list, and what it prints.
pub mod Results

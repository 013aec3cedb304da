-- What a reader has to believe: the program's command line.
pub mod CommandLine

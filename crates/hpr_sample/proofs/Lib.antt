pub mod DrawnNames
pub mod Pushed
pub mod MadeBodies
pub mod OnceEach
pub mod OneMore
pub mod SamplePrograms
